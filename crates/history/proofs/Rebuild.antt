-- The fourth theorem: what stands, placed anew into a cleared store, the walls first and else in any order, into any slots, is all accepted
-- and answers the same levels.
-- Assumes the laws of the store, given as a parameter.
use Rattle.std.specs.Prelude.{Ok}
use mathlib.Core.Path.{◌≡◌, refl, sym, ap, subst, ◌∙◌, fun_ext}
use mathlib.Core.Bool.{true}
use mathlib.Core.List.{List, [], ◌∷◌, ◌++◌, map, Permᴰ}
use Prim.Native.Nat.{ℕ}
use native.Mathlib.Omega.{arith}
use Rattle.screen.specs.declared.Wall.{Wall}
use Rattle.road.specs.declared.Source.{Source}
use Rattle.road.specs.declared.Receiver.{Receiver}
use Rattle.index.specs.Index.{lden_of, lnight_of}
use Rattle.store.specs.declared.Held.{Held}
use Rattle.store.specs.Store.{source_slots, receiver_slots, wall_slots, SourceStands, WallStands}
use Rattle.calls.specs.declared.Reply.TheVariants.{Levels}
use Rattle.road.specs.Reach.{pair_of}
use Rattle.road.specs.Pairs.{Pairing, is_heard}
use Rattle.road.proofs.Pairs.{of_pairs}
use Rattle.ledger.specs.Lists.{present, weigh, All}
use Rattle.calls.proofs.Sums.{HearsAll, all_map, never}
use Rattle.history.specs.History.{Call, answer_to, Real, accepted, kept, source_move, receiver_move, wall_move, last_at, in_slots, standing_source}
use Rattle.history.specs.History.{standing_receiver, standing_wall, standing_sources, standing_receivers, standing_walls, levels_of, SumsOf, Hears, AllHear}
use Rattle.history.specs.History.{Put, Placing, source, receiver, wall, as_call, calls, sources_in, receivers_in, walls_in, WallsFirst, entries_of, Apart}
use Rattle.history.specs.History.{Rule, Rebuilds, AllAccepted, Rebuilt, in_place, anew}
use Rattle.history.proofs.Slots.{all_perm, in_slots_length, entering, entering_perm, entering_at, in_place_entries}
use Rattle.history.proofs.Slots.{in_place_apart}
use Rattle.history.proofs.Accounts.{weigh_perm}
use Rattle.history.proofs.Filled.{ReceiverStands}
use Rattle.history.proofs.Laws.{StoreLaws}
use Rattle.history.proofs.History.{sources_after, receivers_after, walls_after, standing_sources_lem, standing_receivers_lem, standing_walls_lem, holds}
use Rattle.history.proofs.History.{accepts_by_rule, holds_what_stands}

-- ---- placings as moves

source_moves : (ks : List Placing) (i : ℕ) → last_at (map source_move (calls ks)) i ≡ last_at (entering (sources_in ks)) i
unfolding last_at
source_moves [] i = refl
source_moves (source x ∷ ks) i = rw (source_moves ks i)
source_moves (receiver x ∷ ks) i = source_moves ks i
source_moves (wall x ∷ ks) i = source_moves ks i

receiver_moves : (ks : List Placing) (i : ℕ) → last_at (map receiver_move (calls ks)) i ≡ last_at (entering (receivers_in ks)) i
unfolding last_at
receiver_moves [] i = refl
receiver_moves (source x ∷ ks) i = receiver_moves ks i
receiver_moves (receiver x ∷ ks) i = rw (receiver_moves ks i)
receiver_moves (wall x ∷ ks) i = receiver_moves ks i

wall_moves : (ks : List Placing) (i : ℕ) → last_at (map wall_move (calls ks)) i ≡ last_at (entering (walls_in ks)) i
unfolding last_at
wall_moves [] i = refl
wall_moves (source x ∷ ks) i = wall_moves ks i
wall_moves (receiver x ∷ ks) i = wall_moves ks i
wall_moves (wall x ∷ ks) i = rw (wall_moves ks i)

-- ---- placings that go together: apart, allowed, the walls first, and every pair heard among them

record Together (ks : List Placing) : Type 0 where
  source_slots_lem : Apart source_slots (sources_in ks)
  receiver_slots_lem : Apart receiver_slots (receivers_in ks)
  wall_slots_lem : Apart wall_slots (walls_in ks)
  sources : All SourceStands (entries_of (sources_in ks))
  receivers : All ReceiverStands (entries_of (receivers_in ks))
  walls : All WallStands (entries_of (walls_in ks))
  walls_first : WallsFirst ks
  heard : AllHear (entries_of (walls_in ks)) (entries_of (sources_in ks)) (entries_of (receivers_in ks))

first_source : (x : Put Source) (ks : List Placing) → Together (source x ∷ ks) → Together ks
first_source x ks g = record {
  source_slots_lem = g.source_slots_lem.2;
  receiver_slots_lem = g.receiver_slots_lem;
  wall_slots_lem = g.wall_slots_lem;
  sources = g.sources.1;
  receivers = g.receivers;
  walls = g.walls;
  walls_first = g.walls_first;
  heard = all_map (HearsAll (pair_of (entries_of (walls_in ks))) (entries_of (x ∷ sources_in ks))) _ (λ r p. p.1) (entries_of (receivers_in ks)) g.heard;
}

first_receiver : (x : Put Receiver) (ks : List Placing) → Together (receiver x ∷ ks) → Together ks
first_receiver x ks g = record {
  source_slots_lem = g.source_slots_lem;
  receiver_slots_lem = g.receiver_slots_lem.2;
  wall_slots_lem = g.wall_slots_lem;
  sources = g.sources;
  receivers = g.receivers.1;
  walls = g.walls;
  walls_first = g.walls_first;
  heard = g.heard.1;
}

-- with no receiver there is no pair
no_pair : (P : Receiver → Type 0) (l : List (Put Receiver)) → l ≡ [] → All P (entries_of l)
no_pair P l e = subst (λ l. All P (entries_of l)) (sym e) tt

first_wall : (x : Put Wall) (ks : List Placing) → Together (wall x ∷ ks) → Together ks
first_wall x ks g = record {
  source_slots_lem = g.source_slots_lem;
  receiver_slots_lem = g.receiver_slots_lem;
  wall_slots_lem = g.wall_slots_lem.2;
  sources = g.sources;
  receivers = g.receivers;
  walls = g.walls.1;
  walls_first = only_walls ks g.walls_first.0 g.walls_first.1;
  heard = no_pair _ (receivers_in ks) g.walls_first.1;
}
  where
    only_walls : (ks : List Placing) → sources_in ks ≡ [] → receivers_in ks ≡ [] → WallsFirst ks
    only_walls [] e f = tt
    only_walls (source y ∷ ks) e f = never cc
    only_walls (receiver y ∷ ks) e f = never cc
    only_walls (wall y ∷ ks) e f = (e, f)

together_real : (ks : List Placing) → Together ks → Real (calls ks)
together_real [] g = tt
together_real (source x ∷ ks) g = (g.sources.0.1, together_real ks (first_source x ks g))
together_real (receiver x ∷ ks) g = (tt, together_real ks (first_receiver x ks g))
together_real (wall x ∷ ks) g = (tt, together_real ks (first_wall x ks g))

-- where all are kept, they stand where they were placed
module _ (ks : List Placing) (all : kept (calls ks) ≡ calls ks) where
  placed_source : (i : ℕ) → standing_source (calls ks) i ≡ last_at (entering (sources_in ks)) i
  unfolding standing_source
  placed_source i = ap (λ k. last_at (map source_move k) i) all ∙ source_moves ks i

  placed_receiver : (j : ℕ) → standing_receiver (calls ks) j ≡ last_at (entering (receivers_in ks)) j
  unfolding standing_receiver
  placed_receiver j = ap (λ k. last_at (map receiver_move k) j) all ∙ receiver_moves ks j

  placed_wall : (i : ℕ) → standing_wall (calls ks) i ≡ last_at (entering (walls_in ks)) i
  unfolding standing_wall
  placed_wall i = ap (λ k. last_at (map wall_move k) i) all ∙ wall_moves ks i

  placed_sources : Apart source_slots (sources_in ks) → Permᴰ (standing_sources (calls ks)) (entries_of (sources_in ks))
  unfolding standing_sources
  placed_sources apart = rw (fun_ext placed_source) (entering_perm source_slots (sources_in ks) apart)

  placed_receivers : Apart receiver_slots (receivers_in ks) → Permᴰ (standing_receivers (calls ks)) (entries_of (receivers_in ks))
  unfolding standing_receivers
  placed_receivers apart = rw (fun_ext placed_receiver) (entering_perm receiver_slots (receivers_in ks) apart)

  placed_walls : Apart wall_slots (walls_in ks) → Permᴰ (standing_walls (calls ks)) (entries_of (walls_in ks))
  unfolding standing_walls
  placed_walls apart = rw (fun_ext placed_wall) (entering_perm wall_slots (walls_in ks) apart)

  -- and what they make of a pair is what the walls of the placings do
  placed_pairs : Apart wall_slots (walls_in ks) → pair_of (entries_of (walls_in ks)) ≡ pair_of (standing_walls (calls ks))
  placed_pairs apart = of_pairs.any_order (mathlib.Core.List.Permᴰ.symm (placed_walls apart))

abbrev Accepted : List Placing → Type 0
Accepted ks = AllAccepted (calls ks) × (kept (calls ks) ≡ calls ks)

pub keeps : (c : Call) (h k : List Call) → kept h ≡ k → accepted (answer_to h c) ≡ true → kept (c ∷ h) ≡ c ∷ k
unfolding kept
keeps c h k q e = rw (e, q)

account_is : (ws : List Wall) (ss : List Source) (x : Held) → SumsOf ws ss x → x ≡ weigh (pair_of ws) ss x.who
account_is ws ss x p = λ i. record { who = x.who; sums = record { day = p.day i; evening = p.evening i; night = p.night i } }

-- neither the order of the walls nor that of the sources matters to an account, nor to the levels
accounts_perm : {v w : List Wall} {l m : List Source} → Permᴰ v w → Permᴰ l m → (r : Receiver) → weigh (pair_of v) l r ≡ weigh (pair_of w) m r
accounts_perm {w = w} {l = l} ω π r = ap (λ (pair : Pairing). weigh pair l r) (of_pairs.any_order ω) ∙ weigh_perm (pair_of w) π r

levels_perm : {v w : List Wall} {l m : List Source} → Permᴰ v w → Permᴰ l m → (r : Receiver) → levels_of v l r ≡ levels_of w m r
levels_perm ω π r =
    ap (λ (x : Held). Ok (Levels (lden_of x.sums.day x.sums.evening x.sums.night) (lnight_of x.sums.night))) (accounts_perm ω π r)

module _ (laws : StoreLaws) where
  -- one more placing that meets the rule
  one_more : (k : Placing) (ks : List Placing) → Together ks → Accepted ks
      → Rule (standing_wall (calls ks)) (standing_source (calls ks)) (standing_receiver (calls ks)) (as_call k) → Accepted (k ∷ ks)
  one_more k ks g ih n =
      let e = (accepts_by_rule laws (calls ks) (together_real ks g) (as_call k)).1 n in
      ((e, ih.0), keeps (as_call k) (calls ks) (calls ks) ih.1 e)

  all_accepted : (ks : List Placing) → Together ks → Accepted ks
  unfolding kept standing_sources standing_receivers standing_walls
  all_accepted [] g = (tt, refl)
  all_accepted (source x ∷ ks) g =
      let g' = first_source x ks g in
      let ih = all_accepted ks g' in
      let ws = entries_of (walls_in ks) in
      let hears = all_map (HearsAll (pair_of ws) (entries_of (x ∷ sources_in ks))) (Hears ws x.entry) (λ r p. p.0) (entries_of (receivers_in ks)) g.heard in
      one_more (source x) ks g' ih (
        g.source_slots_lem.0,
        g.sources.0.0,
        subst (λ (pair : Pairing). All (λ r. is_heard (pair x.entry r) ≡ true) (standing_receivers (calls ks))) (placed_pairs ks ih.1 g'.wall_slots_lem)
            (all_perm (Hears ws x.entry) (mathlib.Core.List.Permᴰ.symm (placed_receivers ks ih.1 g'.receiver_slots_lem)) hears),
      )
  all_accepted (receiver x ∷ ks) g =
      let g' = first_receiver x ks g in
      let ih = all_accepted ks g' in
      let ws = entries_of (walls_in ks) in
      one_more (receiver x) ks g' ih (
        g.receiver_slots_lem.0,
        g.receivers.0,
        subst (λ (pair : Pairing). All (λ s. is_heard (pair s x.entry) ≡ true) (standing_sources (calls ks))) (placed_pairs ks ih.1 g'.wall_slots_lem)
            (all_perm (λ s. Hears ws s x.entry) (mathlib.Core.List.Permᴰ.symm (placed_sources ks ih.1 g'.source_slots_lem)) g.heard.0),
      )
  -- before it there are only walls, so that no pair is to be heard
  all_accepted (wall x ∷ ks) g =
      let g' = first_wall x ks g in
      let ih = all_accepted ks g' in
      one_more (wall x) ks g' ih (
        g.wall_slots_lem.0,
        g.walls.0,
        all_perm _ (mathlib.Core.List.Permᴰ.symm (placed_receivers ks ih.1 g'.receiver_slots_lem)) (no_pair _ (receivers_in ks) g.walls_first.1),
      )

  -- what stands goes together
  together : (h : List Call) → Real h → (ks : List Placing) → Rebuilds h ks → Together ks
  together h real ks b =
      let p = (holds laws h real).standing in
      let ws = present (walls_after (kept h)) in
      let ss = present (sources_after (kept h)) in
      let rs = present (receivers_after (kept h)) in
      let σ : Permᴰ ss (entries_of (sources_in ks)) = rw (standing_sources_lem h) at (mathlib.Core.List.Permᴰ.symm b.same_sources) in
      let ρ : Permᴰ rs (entries_of (receivers_in ks)) = rw (standing_receivers_lem h) at (mathlib.Core.List.Permᴰ.symm b.same_receivers) in
      let ω : Permᴰ ws (entries_of (walls_in ks)) = rw (standing_walls_lem h) at (mathlib.Core.List.Permᴰ.symm b.same_walls) in
      let hears = all_perm (HearsAll (pair_of ws) (entries_of (sources_in ks))) ρ (all_map (HearsAll (pair_of ws) ss) _ (λ r q. all_perm (λ s. Hears ws s r) σ q) rs p.heard) in
      record {
        source_slots_lem = b.source_slots_lem;
        receiver_slots_lem = b.receiver_slots_lem;
        wall_slots_lem = b.wall_slots_lem;
        sources = all_perm SourceStands σ p.sources;
        receivers = all_perm ReceiverStands ρ p.receivers;
        walls = all_perm WallStands ω p.walls;
        walls_first = b.walls_first;
        heard = subst (λ (pair : Pairing). All (HearsAll pair (entries_of (sources_in ks))) (entries_of (receivers_in ks))) (of_pairs.any_order ω) hears;
      }

  pub rebuilt : (h : List Call) → Real h → (ks : List Placing) → Rebuilds h ks → Rebuilt h ks
  rebuilt h real ks b =
      let g = together h real ks b in
      let all = all_accepted ks g in
      let π : Permᴰ (standing_sources (calls ks)) (standing_sources h) =
      mathlib.Core.List.Permᴰ.trans (placed_sources ks all.1 g.source_slots_lem) b.same_sources in
      let ω : Permᴰ (standing_walls (calls ks)) (standing_walls h) =
      mathlib.Core.List.Permᴰ.trans (placed_walls ks all.1 g.wall_slots_lem) b.same_walls in
      let before = holds_what_stands laws h real in
      let after = holds_what_stands laws (calls ks) (together_real ks g) in
      record {
        all_accepted = all.0;
        same_accounts = λ j k x y ex ey q.
            account_is _ _ x (before.sums j x ex) ∙ ap (weigh (pair_of (standing_walls h)) (standing_sources h)) q
            ∙ sym (account_is _ _ y (after.sums k y ey) ∙ accounts_perm ω π y.who);
        same_levels = λ x j m q e.
            let at = entering_at receiver_slots (receivers_in ks) x g.receiver_slots_lem m in
            after.levels x.slot x.entry at.0 (placed_receiver ks all.1 x.slot ∙ at.1)
            ∙ levels_perm ω π x.entry
            ∙ sym (before.levels j x.entry q e);
      }

-- ---- such placings there are

-- the sources, the receivers, and the walls last
abbrev in_turn : List (Put Source) → List (Put Receiver) → List (Put Wall) → List Placing
in_turn xs ys zs = map source xs ++ (map receiver ys ++ map wall zs)

sources_turn : (xs : List (Put Source)) (ys : List (Put Receiver)) (zs : List (Put Wall)) → sources_in (in_turn xs ys zs) ≡ xs
sources_turn [] [] [] = refl
sources_turn [] [] (z ∷ zs) = sources_turn [] [] zs
sources_turn [] (y ∷ ys) zs = sources_turn [] ys zs
sources_turn (x ∷ xs) ys zs = ap (λ (t : List (Put Source)). x ∷ t) (sources_turn xs ys zs)

receivers_turn : (xs : List (Put Source)) (ys : List (Put Receiver)) (zs : List (Put Wall)) → receivers_in (in_turn xs ys zs) ≡ ys
receivers_turn [] [] [] = refl
receivers_turn [] [] (z ∷ zs) = receivers_turn [] [] zs
receivers_turn [] (y ∷ ys) zs = ap (λ (t : List (Put Receiver)). y ∷ t) (receivers_turn [] ys zs)
receivers_turn (x ∷ xs) ys zs = receivers_turn xs ys zs

walls_turn : (xs : List (Put Source)) (ys : List (Put Receiver)) (zs : List (Put Wall)) → walls_in (in_turn xs ys zs) ≡ zs
walls_turn [] [] [] = refl
walls_turn [] [] (z ∷ zs) = ap (λ (t : List (Put Wall)). z ∷ t) (walls_turn [] [] zs)
walls_turn [] (y ∷ ys) zs = walls_turn [] ys zs
walls_turn (x ∷ xs) ys zs = walls_turn xs ys zs

walls_first : (xs : List (Put Source)) (ys : List (Put Receiver)) (zs : List (Put Wall)) → WallsFirst (in_turn xs ys zs)
walls_first [] [] [] = tt
walls_first [] [] (z ∷ zs) = (sources_turn [] [] zs, receivers_turn [] [] zs)
walls_first [] (y ∷ ys) zs = walls_first [] ys zs
walls_first (x ∷ xs) ys zs = walls_first xs ys zs

pub anew_rebuilds : (h : List Call) → Rebuilds h (anew h)
unfolding anew standing_sources standing_receivers standing_walls
anew_rebuilds h =
    let S = in_slots source_slots (standing_source h) in
    let R = in_slots receiver_slots (standing_receiver h) in
    let W = in_slots wall_slots (standing_wall h) in
    let s : sources_in (anew h) ≡ in_place 0 S = sources_turn (in_place 0 S) (in_place 0 R) (in_place 0 W) in
    let r : receivers_in (anew h) ≡ in_place 0 R = receivers_turn (in_place 0 S) (in_place 0 R) (in_place 0 W) in
    let w : walls_in (anew h) ≡ in_place 0 W = walls_turn (in_place 0 S) (in_place 0 R) (in_place 0 W) in
    record {
      same_sources = rw (s, in_place_entries 0 S) (mathlib.Core.List.Permᴰ.refl (present S));
      same_receivers = rw (r, in_place_entries 0 R) (mathlib.Core.List.Permᴰ.refl (present R));
      same_walls = rw (w, in_place_entries 0 W) (mathlib.Core.List.Permᴰ.refl (present W));
      source_slots_lem = rw s (in_place_apart source_slots 0 S (omega (arith, in_slots_length source_slots (standing_source h))));
      receiver_slots_lem = rw r (in_place_apart receiver_slots 0 R (omega (arith, in_slots_length receiver_slots (standing_receiver h))));
      wall_slots_lem = rw w (in_place_apart wall_slots 0 W (omega (arith, in_slots_length wall_slots (standing_wall h))));
      walls_first = walls_first (in_place 0 S) (in_place 0 R) (in_place 0 W);
    }
