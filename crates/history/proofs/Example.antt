-- The 25 m case as a history: place, ask, move the road away in its slot, ask, withdraw, ask. What it is answered, computed from the table
-- of figures and the theorems.
-- Assumes the laws of the store, given as a parameter.
use Rattle.std.specs.Prelude.{Ok, Some, None}
use mathlib.Core.Path.{◌≡◌, refl, sym, ap, subst, ◌∙◌}
use mathlib.Core.Option.{some}
use mathlib.Core.List.Memᴰ
use mathlib.Core.List.Permᴰ
use mathlib.Core.List.{List, [], ◌∷◌, Permᴰ}
use Prim.Native.Nat.{ℕ, ◌+◌}
use native.Mathlib.Omega.{arith}
use Rattle.level.specs.Table.{table, first_quarter, second_quarter, third_quarter, fourth_quarter}
use Rattle.level.specs.Level.{energy_of, level_of, up_to, decades, loudness_of}
use Rattle.road.specs.declared.Source.{Source}
use Rattle.road.specs.Results.{Pair}
use Rattle.road.specs.Pairs.{is_heard, share_in}
use Rattle.road.specs.Figures.{road, home}
use Rattle.road.proofs.Figures.{near_allowed, far_allowed, home_allowed, near_pair, far_pair}
use Rattle.index.specs.Index.{lden_of, lnight_of}
use Rattle.store.specs.Store.{last_source, last_receiver, source_slots, receiver_slots, wall_slots}
use Rattle.calls.specs.Calls.{Answer}
use Rattle.calls.specs.declared.Reply.TheVariants.{Levels}
use Rattle.ledger.specs.Lists.{present}
use Rattle.history.specs.History.{standing_receivers, Placing, source, receiver, calls, Rebuilds, Call, PlaceSource, WithdrawSource, PlaceReceiver}
use Rattle.history.specs.History.{Ask, answer_to, Real, kept, last_at, in_slots, standing_source, standing_receiver}
use Rattle.history.specs.History.{standing_sources, standing_wall, standing_walls, levels_of, Rule}
use Rattle.history.proofs.Laws.{StoreLaws, store_laws}
use Rattle.history.proofs.History.{wall_after, source_after, seat_after, accepts_by_rule, holds_what_stands}
use Rattle.history.proofs.Rebuild.{keeps, rebuilt}

-- ---- the two roads, and what the first brings to the point

abbrev near : Source
near = road 102500

abbrev far : Source
far = road 110000

-- what is told of three sums
abbrev given : ℕ → ℕ → ℕ → Answer
given a b c = Ok (Levels (lden_of (a + 0) (b + 0) (c + 0)) (lnight_of (c + 0)))

near_energies : given (energy_of 6028) (energy_of 6028) (energy_of 5028) ≡ Ok (Levels (Some 616) (Some 503))
unfolding energy_of loudness_of level_of up_to decades table first_quarter second_quarter third_quarter fourth_quarter
near_energies = refl

far_energies : given (energy_of 4293) (energy_of 4348) (energy_of 3403) ≡ Ok (Levels (Some 448) (Some 340))
unfolding energy_of loudness_of level_of up_to decades table first_quarter second_quarter third_quarter fourth_quarter
far_energies = refl

-- L_DEN 61.6, L_Night 50.3
near_levels : levels_of [] (near ∷ []) home ≡ Ok (Levels (Some 616) (Some 503))
near_levels = ap (λ (p : Pair). given (share_in p 0) (share_in p 1) (share_in p 2)) near_pair ∙ near_energies

-- L_DEN 44.8, L_Night 34.0
far_levels : levels_of [] (far ∷ []) home ≡ Ok (Levels (Some 448) (Some 340))
far_levels = ap (λ (p : Pair). given (share_in p 0) (share_in p 1) (share_in p 2)) far_pair ∙ far_energies

silence : levels_of [] [] home ≡ Ok (Levels None None)
unfolding loudness_of
silence = refl

-- ---- the history: the latest call first

abbrev placed : List Call
placed = PlaceSource 0 near ∷ PlaceReceiver 5 home ∷ []

-- into the used slot
abbrev moved : List Call
moved = PlaceSource 0 far ∷ Ask 5 ∷ placed

abbrev withdrawn : List Call
withdrawn = WithdrawSource 0 ∷ moved

abbrev elsewhere : List Placing
elsewhere = receiver record { slot = last_receiver; entry = home } ∷ source record { slot = last_source; entry = near } ∷ []

module _ (laws : StoreLaws) where
  -- a call that meets the rule is kept
  by_rule : (h k : List Call) → Real h → kept h ≡ k → (c : Call) → Rule (wall_after k) (source_after k) (seat_after k) c → kept (c ∷ h) ≡ c ∷ k
  unfolding standing_source standing_receiver standing_wall
  by_rule h k real q c n =
      keeps c h k q ((accepts_by_rule laws h real c).1 (subst (λ l. Rule (wall_after l) (source_after l) (seat_after l) c) (sym q) n))

  -- what an ask is told
  tells : (h k : List Call) → Real h → kept h ≡ k → seat_after k 5 ≡ some home
      → answer_to h (Ask 5) ≡ levels_of (present (in_slots wall_slots (wall_after k))) (present (in_slots source_slots (source_after k))) home
  unfolding standing_receiver standing_sources standing_source standing_walls standing_wall receiver_slots
  tells h k real q e =
      (holds_what_stands laws h real).levels 5 home (omega arith) (ap (λ l. seat_after l 5) q ∙ e)
      ∙ ap (λ l. levels_of (present (in_slots wall_slots (wall_after l))) (present (in_slots source_slots (source_after l))) home) q

  placed_kept : kept placed ≡ placed
  unfolding kept last_at in_slots source_slots receiver_slots wall_slots
  placed_kept =
      by_rule (PlaceReceiver 5 home ∷ []) (PlaceReceiver 5 home ∷ []) (tt, tt)
      (by_rule [] [] tt refl (PlaceReceiver 5 home) (omega arith, home_allowed, tt))
      (PlaceSource 0 near) (omega arith, near_allowed, (ap is_heard near_pair, tt))

  pub asked : answer_to placed (Ask 5) ≡ Ok (Levels (Some 616) (Some 503))
  unfolding last_at in_slots source_slots wall_slots
  asked = tells placed placed (refl, (tt, tt)) placed_kept refl ∙ near_levels

  asked_kept : kept (Ask 5 ∷ placed) ≡ Ask 5 ∷ placed
  unfolding last_at receiver_slots
  asked_kept = by_rule placed placed (refl, (tt, tt)) placed_kept (Ask 5) (omega arith, refl)

  moved_kept : kept moved ≡ moved
  unfolding last_at in_slots source_slots receiver_slots wall_slots
  moved_kept =
      by_rule (Ask 5 ∷ placed) (Ask 5 ∷ placed) (tt, (refl, (tt, tt))) asked_kept (PlaceSource 0 far) (omega arith, far_allowed, (ap is_heard far_pair, tt))

  -- the shares of the road that was there are gone
  pub asked_moved : answer_to moved (Ask 5) ≡ Ok (Levels (Some 448) (Some 340))
  unfolding last_at in_slots source_slots wall_slots
  asked_moved = tells moved moved (refl, (tt, (refl, (tt, tt)))) moved_kept refl ∙ far_levels

  withdrawn_kept : kept withdrawn ≡ withdrawn
  unfolding last_at source_slots
  withdrawn_kept = by_rule moved moved (refl, (tt, (refl, (tt, tt)))) moved_kept (WithdrawSource 0) (omega arith, refl)

  pub asked_again : answer_to withdrawn (Ask 5) ≡ Ok (Levels None None)
  unfolding last_at in_slots source_slots wall_slots
  asked_again = tells withdrawn withdrawn (tt, (refl, (tt, (refl, (tt, tt))))) withdrawn_kept refl ∙ silence

  -- ---- the same two into other slots, and the source first

  placed_seat : standing_receiver placed 5 ≡ some home
  unfolding standing_receiver last_at
  placed_seat = ap (λ l. seat_after l 5) placed_kept

  elsewhere_rebuilds : Rebuilds placed elsewhere
  unfolding standing_sources standing_source standing_receivers standing_receiver standing_walls standing_wall last_at in_slots source_slots receiver_slots wall_slots
  elsewhere_rebuilds =
      let s : standing_sources placed ≡ near ∷ [] = ap (λ l. present (in_slots source_slots (source_after l))) placed_kept in
      let r : standing_receivers placed ≡ home ∷ [] = ap (λ l. present (in_slots receiver_slots (seat_after l))) placed_kept in
      let w : standing_walls placed ≡ [] = ap (λ l. present (in_slots wall_slots (wall_after l))) placed_kept in
      record {
        same_sources = subst (Permᴰ (near ∷ [])) (sym s) (Permᴰ.refl (near ∷ []));
        same_receivers = subst (Permᴰ (home ∷ [])) (sym r) (Permᴰ.refl (home ∷ []));
        same_walls = subst (Permᴰ []) (sym w) (Permᴰ.refl []);
        source_slots_lem = (omega arith, tt, tt);
        receiver_slots_lem = (omega arith, tt, tt);
        wall_slots_lem = tt;
        walls_first = tt;
      }

  pub asked_elsewhere : answer_to (calls elsewhere) (Ask last_receiver) ≡ Ok (Levels (Some 616) (Some 503))
  unfolding receiver_slots
  asked_elsewhere =
      (rebuilt laws placed (refl, (tt, tt)) elsewhere elsewhere_rebuilds).same_levels _ 5 (Memᴰ.head refl) (omega arith) placed_seat ∙ asked

-- ---- all of it in this project's store, with nothing assumed

pub placed_then_asked : answer_to placed (Ask 5) ≡ Ok (Levels (Some 616) (Some 503))
placed_then_asked = asked store_laws

pub moved_then_asked : answer_to moved (Ask 5) ≡ Ok (Levels (Some 448) (Some 340))
moved_then_asked = asked_moved store_laws

pub withdrawn_then_asked : answer_to withdrawn (Ask 5) ≡ Ok (Levels None None)
withdrawn_then_asked = asked_again store_laws

pub rebuilt_then_asked : answer_to (calls elsewhere) (Ask last_receiver) ≡ Ok (Levels (Some 616) (Some 503))
rebuilt_then_asked = asked_elsewhere store_laws
