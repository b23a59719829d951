-- A book filled with sources, receivers and walls, every account worked out afresh: each call makes another such book of it, or refuses by the rule.
-- No late refusal comes up. Assumes nothing.
use Rattle.std.specs.Prelude.{Ok}
use mathlib.Core.Path.{◌≡◌, refl, sym, ap, subst, ◌∙◌}
use mathlib.Core.Bool.{true}
use mathlib.Core.Option.{Option, none, some}
use mathlib.Core.List.{List, [], ◌∷◌, map}
use Prim.Native.Nat.{ℕ, ◌≤◌, ◌<◌}
use native.Mathlib.Omega.{arith}
use lib.ListN.{length, get_or, set, length-set, length-map, get_or-map}
use Rattle.screen.specs.declared.Wall.{Wall}
use Rattle.road.specs.declared.Source.{Source}
use Rattle.road.specs.declared.Receiver.{Receiver}
use Rattle.road.specs.Results.{Pair}
use Rattle.road.specs.Reach.{pair_of}
use Rattle.road.specs.Pairs.{Pairing, is_heard, brought}
use Rattle.road.proofs.Pairs.{pair_bounded}
use Rattle.road.specs.Judge.{source_verdict, receiver_verdict, wall_verdict, slot_verdict}
use Rattle.store.specs.declared.Held.{Held}
use Rattle.account.specs.Account.{sound, covers}
use Rattle.store.specs.Store.{last_source, last_receiver, last_wall, Book, book, source_slots, receiver_slots, wall_slots, SourceStands, HeldStands}
use Rattle.store.specs.Store.{WallStands, SoundBook}
use Rattle.store.proofs.Laws.{many_sources, many_receivers, many_walls}
use Rattle.calls.specs.Calls.{Answer}
use Rattle.ledger.specs.Lists.{omap, present, every, first_bar, weigh, All}
use Rattle.ledger.specs.Changes.{Change, follow, bar_of, pair_by, exchange, together, renewing}
use Rattle.calls.specs.Calls.{used, Step, tell, allow, from_used}
use Rattle.calls.specs.Calls.{change_source, place_source, withdraw_source, place_receiver, withdraw_receiver, change_wall, place_wall, withdraw_wall, ask_receiver}
use Rattle.road.proofs.Judged.{source_by, receiver_by, wall_by}
use Rattle.calls.proofs.Sums.{HearsAll, all_map, and_both, bars_pass, never, weigh_sound}
use Rattle.history.specs.History.{Call, PlaceSource, WithdrawSource, PlaceReceiver, WithdrawReceiver, PlaceWall, WithdrawWall, Ask}
use Rattle.history.specs.History.{RealCall, accepted, source_move, receiver_move, wall_move, in_slots, levels_of, Hears, AllHear, Rule}
use Rattle.history.proofs.Slots.{all_both, all_set, all_at, every_all, every_omap, omap_set, omap_twice}
use Rattle.history.proofs.Slots.{used_omap, perm_set, perm_at, in_slots_length, in_slots_at, moved}
use Rattle.history.proofs.Accounts.{exchange_is, covers_is, weigh_perm}
use Rattle.history.proofs.Gates.{Fine, past_used, past_bars, past_followed, bars_none, bars_apart, bars_omap}
use Rattle.history.proofs.Gates.{each_together, together_each, slot_passes, past_fields}

all_here : {A : Type 0} (P : A → Type 0) → ((a : A) → P a) → (l : List A) → All P l
all_here P f [] = tt
all_here P f (a ∷ l) = (f a, all_here P f l)

-- ---- a filled book

-- sources in S, receivers in R, walls in W
abbrev pub fill : List (Option Wall) → List (Option Source) → List (Option Receiver) → Book
fill W S R = book S (map (omap (weigh (pair_of (present W)) (present S))) R) W

abbrev pub ReceiverStands : Receiver → Type 0
ReceiverStands r = receiver_verdict r ≡ Ok tt

-- these entries may be in a book together
pub record Standing (W : List (Option Wall)) (S : List (Option Source)) (R : List (Option Receiver)) : Type 0 where
  pub wall_slots_lem : length W ≡ wall_slots
  pub source_slots_lem : length S ≡ source_slots
  pub seats : length R ≡ receiver_slots
  pub walls : All WallStands (present W)
  pub sources : All SourceStands (present S)
  pub receivers : All ReceiverStands (present R)
  pub heard : AllHear (present W) (present S) (present R)

pub fill_at : (W : List (Option Wall)) (S : List (Option Source)) (R : List (Option Receiver)) (j : ℕ)
    → get_or (fill W S R).receivers j none ≡ omap (weigh (pair_of (present W)) (present S)) (get_or R j none)
fill_at W S R j = get_or-map (omap (weigh (pair_of (present W)) (present S))) R j none

-- a store can hold it
pub standing_sound : (W : List (Option Wall)) (S : List (Option Source)) (R : List (Option Receiver)) → Standing W S R → SoundBook (fill W S R)
standing_sound W S R p = record {
  source_slots_lem = p.source_slots_lem ∙ many_sources;
  seats = length-map R (omap (weigh (pair_of (present W)) (present S))) ∙ p.seats ∙ many_receivers;
  wall_slots_lem = p.wall_slots_lem ∙ many_walls;
  sources_stand = λ i s e. all_at SourceStands S i s p.sources e;
  receivers_stand = λ j x e. go j (get_or R j none) refl x (sym (fill_at W S R j) ∙ e);
  walls_stand = λ k w e. all_at WallStands W k w p.walls e;
}
  where
    go : (j : ℕ) (o : Option Receiver) → get_or R j none ≡ o → (x : Held) → omap (weigh (pair_of (present W)) (present S)) o ≡ some x → HeldStands x
    go j none q x e = never cc
    go j (some r) q x e =
        let same : weigh (pair_of (present W)) (present S) r ≡ x = cc in
        let ok : HeldStands (weigh (pair_of (present W)) (present S) r) = (
          all_at ReceiverStands R j r p.receivers q,
          weigh_sound (pair_of (present W)) (pair_bounded (present W)) S r p.source_slots_lem,
        ) in
        subst HeldStands same ok

-- ---- what each call makes of it, where wall-slot, source-slot and seat say who is in each slot

module _ (wall-slot : ℕ → Option Wall) (source-slot : ℕ → Option Source) (seat : ℕ → Option Receiver) where
  abbrev W : List (Option Wall)
  W = in_slots wall_slots wall-slot

  abbrev S : List (Option Source)
  S = in_slots source_slots source-slot

  abbrev R : List (Option Receiver)
  R = in_slots receiver_slots seat

  -- a pair among the walls
  abbrev among : Pairing
  among = pair_of (present W)

  abbrev afresh : Receiver → Held
  afresh = weigh among (present S)

  -- the book b is that of the slots as the call's moves leave them
  abbrev pub Next : Call → Book → Type 0
  Next c b =
      (b ≡ fill (moved wall_slots (wall_move c) W) (moved source_slots (source_move c) S) (moved receiver_slots (receiver_move c) R))
      × (RealCall c → Standing (moved wall_slots (wall_move c) W) (moved source_slots (source_move c) S) (moved receiver_slots (receiver_move c) R))

  abbrev pub Leads : Call → Step → Type 0
  Leads c k = Fine (Rule wall-slot source-slot seat c) (λ a. (accepted a ≡ true) × Next c (fill W S R)) (Next c) k

  -- ---- who is in a slot

  source_slot_is : (i : ℕ) → i ≤ last_source → get_or S i none ≡ source-slot i
  source_slot_is i h = in_slots_at source_slots source-slot none i (omega (arith, many_sources))

  wall_slot_is : (k : ℕ) → k ≤ last_wall → get_or W k none ≡ wall-slot k
  wall_slot_is k h = in_slots_at wall_slots wall-slot none k (omega (arith, many_walls))

  seat_is : (j : ℕ) → j ≤ last_receiver → get_or (fill W S R).receivers j none ≡ omap afresh (seat j)
  seat_is j h = fill_at W S R j ∙ ap (omap afresh) (in_slots_at receiver_slots seat none j (omega (arith, many_receivers)))

  -- ---- a source goes and another comes, each there or not: slot i then holds o

  module _ (i : ℕ) (o : Option Source) (low : i < length S) where
    abbrev goes : Option Source
    goes = get_or S i none

    abbrev exchanged : Change
    exchanged = exchange among goes o

    -- whoever comes is heard
    abbrev HeardHere : Type 0
    HeardHere = All (λ r. is_heard (pair_by among o r) ≡ true) (present R)

    before : (r : Receiver) → afresh r ≡ weigh among (present (goes ∷ set S i none)) r
    before = weigh_perm among (perm_at S i low)

    after : (r : Receiver) → follow exchanged (afresh r) ≡ weigh among (present (set S i o)) r
    after r = ap (follow exchanged) (before r) ∙ exchange_is among r (set S i none) goes o ∙ sym (weigh_perm among (perm_set o S i low) r)

    -- whoever goes was heard, its shares are in the sums, and no sum passes the most that it may be
    all_exchange : All (HearsAll among (present S)) (present R) → every exchanged.fits (present (fill W S R).receivers) ≡ true
    all_exchange p =
        every_omap afresh exchanged.fits R
        ∙ every_all (λ r. exchanged.fits (afresh r)) (present R) (all_map (HearsAll among (present S)) (λ r. exchanged.fits (afresh r) ≡ true) fits (present R) p)
      where
        heard : (r : Receiver) → HearsAll among (present S) r → (a : Option Source) → get_or S i none ≡ a → is_heard (pair_by among a r) ≡ true
        heard r q none e = refl
        heard r q (some s) e = all_at (λ s. Hears (present W) s r) S i s q e

        fits : (r : Receiver) → HearsAll among (present S) r → exchanged.fits (afresh r) ≡ true
        fits r q =
            and_both (heard r q goes refl)
            (and_both (ap (λ (x : Held). covers x.sums (brought (pair_by among goes r))) (before r) ∙ covers_is among r (set S i none) goes)
            (ap (λ (x : Held). sound x.sums) (after r)
            ∙ weigh_sound among (pair_bounded (present W)) (set S i o) r (length-set S i o ∙ in_slots_length source_slots source-slot)))

    source_then : All SourceStands (present (o ∷ [])) → HeardHere → Standing W S R → Standing W (set S i o) R
    source_then ok hears p = record {
      wall_slots_lem = p.wall_slots_lem;
      source_slots_lem = length-set S i o ∙ p.source_slots_lem;
      seats = p.seats;
      walls = p.walls;
      sources = all_set SourceStands S i o ok p.sources;
      receivers = p.receivers;
      heard = all_both (λ r. is_heard (pair_by among o r) ≡ true) (λ r h a. all_set (λ s. Hears (present W) s r) S i o (here r o h) a) (present R) hears p.heard;
    }
      where
        here : (r : Receiver) (a : Option Source) → is_heard (pair_by among a r) ≡ true → All (λ s. Hears (present W) s r) (present (a ∷ []))
        here r none h = tt
        here r (some s) h = (h, tt)

    change_source_lem : (N : Type 0) (Q : Answer → Type 0) (P : Book → Type 0) → Standing W S R → (N → HeardHere) → (HeardHere → N × P (fill W (set S i o) R))
        → Fine N Q P (change_source i o (fill W S R))
    change_source_lem N Q P p need give =
        let tries : Held → Pair = λ x. pair_by among o x.who in
        past_followed N Q P exchanged (λ rs. book (set S i o) rs W) (fill W S R)
        (λ n. bars_omap afresh tries 0 R ∙ bars_none (pair_by among o) 0 R (need n)) (all_exchange p.heard)
        (λ bars. subst (λ rs. N × P (book (set S i o) rs W)) (sym (omap_twice afresh (follow exchanged) _ R after))
        (give (bars_pass (pair_by among o) 0 R (sym (bars_omap afresh tries 0 R) ∙ bars))))

  pub place_source_lem : (i : ℕ) (s : Source) → Standing W S R → Leads (PlaceSource i s) (place_source i s (fill W S R))
  unfolding place_source
  place_source_lem i s p =
      past_fields _ _ _ last_source i (source_verdict s) _ (source_by s) (λ n. (omega (arith, n.0, many_sources), n.1)) λ ok.
      let low : i < length S = omega (arith, ok.0, p.source_slots_lem, many_sources) in
      change_source_lem i (some s) low _ _ _ p (λ n. n.2) λ hears. (
        (omega (arith, ok.0, many_sources), ok.1, hears),
        (refl, λ real. source_then i (some s) low ((ok.1, real), tt) hears p),
      )

  pub withdraw_source_lem : (i : ℕ) → Standing W S R → Leads (WithdrawSource i) (withdraw_source i (fill W S R))
  unfolding withdraw_source
  withdraw_source_lem i p =
      past_fields _ _ _ last_source i (Ok tt) _ tt (λ n. (omega (arith, n.0, many_sources), refl)) λ ok.
      past_used _ _ _ (get_or S i none) _ (λ n. ap used (source_slot_is i ok.0) ∙ n.1) λ s there.
      let low : i < length S = omega (arith, ok.0, p.source_slots_lem, many_sources) in
      change_source_lem i none low _ _ _ p (λ n. all_here (λ r. true ≡ true) (λ r. refl) (present R)) λ hears. (
        (omega (arith, ok.0, many_sources), ap used (sym (source_slot_is i ok.0) ∙ there)),
        (refl, λ real. source_then i none low tt hears p),
      )

  -- ---- a receiver comes, goes or is asked

  pub place_receiver_lem : (j : ℕ) (r : Receiver) → Standing W S R → Leads (PlaceReceiver j r) (place_receiver j r (fill W S R))
  unfolding place_receiver
  place_receiver_lem j r p =
      past_fields _ _ _ last_receiver j (receiver_verdict r) _ (receiver_by r) (λ n. (omega (arith, n.0, many_receivers), n.1)) λ ok.
      past_bars _ _ _ (first_bar (λ (s : Source). among s r) 0 S) _ (bars_apart _ 0 S) (λ n. bars_none (λ s. among s r) 0 S n.2) λ bars.
      let hears = bars_pass (λ s. among s r) 0 S bars in (
        (omega (arith, ok.0, many_receivers), ok.1, hears),
        (
          ap (λ rs. book S rs W) (sym (omap_set afresh R j (some r))),
          λ real.
              record {
                wall_slots_lem = p.wall_slots_lem;
                source_slots_lem = p.source_slots_lem;
                seats = length-set R j (some r) ∙ p.seats;
                walls = p.walls;
                sources = p.sources;
                receivers = all_set ReceiverStands R j (some r) (ok.1, tt) p.receivers;
                heard = all_set (HearsAll among (present S)) R j (some r) (hears, tt) p.heard;
              },
        ),
      )

  -- all that the rule asks of a receiver's withdrawal or an ask
  abbrev Seated : ℕ → Type 0
  Seated j = (j < receiver_slots) × (used (seat j) ≡ true)

  at_seat : (j : ℕ) (Q : Answer → Type 0) (P : Book → Type 0) (k : Held → Step) → ((x : Held) → Seated j → Fine (Seated j) Q P (k x))
      → Fine (Seated j) Q P (allow (slot_verdict last_receiver j (Ok tt)) (from_used (get_or (fill W S R).receivers j none) k))
  at_seat j Q P k f =
      past_fields _ _ _ last_receiver j (Ok tt) _ tt (λ n. (omega (arith, n.0, many_receivers), refl)) λ ok.
      let same : used (get_or (fill W S R).receivers j none) ≡ used (seat j) = ap used (seat_is j ok.0) ∙ used_omap afresh (seat j) in
      past_used _ _ _ (get_or (fill W S R).receivers j none) _ (λ n. same ∙ n.1) λ x there.
      f x (omega (arith, ok.0, many_receivers), sym same ∙ ap used there)

  pub withdraw_receiver_lem : (j : ℕ) → Standing W S R → Leads (WithdrawReceiver j) (withdraw_receiver j (fill W S R))
  unfolding withdraw_receiver
  withdraw_receiver_lem j p = at_seat j _ _ _ λ x n. (
    n,
    (
      ap (λ rs. book S rs W) (sym (omap_set afresh R j none)),
      λ real.
          record {
            wall_slots_lem = p.wall_slots_lem;
            source_slots_lem = p.source_slots_lem;
            seats = length-set R j none ∙ p.seats;
            walls = p.walls;
            sources = p.sources;
            receivers = all_set ReceiverStands R j none tt p.receivers;
            heard = all_set (HearsAll among (present S)) R j none tt p.heard;
          },
    ),
  )

  pub ask_receiver_lem : (j : ℕ) → Standing W S R → Leads (Ask j) (ask_receiver j (fill W S R))
  unfolding ask_receiver
  ask_receiver_lem j p = at_seat j _ _ _ λ x n. (n, (refl, (refl, λ real. p)))

  pub ask_tells : (j : ℕ) (r : Receiver) → j < receiver_slots → seat j ≡ some r → ask_receiver j (fill W S R) ≡ tell (levels_of (present W) (present S) r)
  unfolding ask_receiver
  ask_tells j r h e =
      let low : j ≤ last_receiver = omega (arith, many_receivers) in
      rw (slot_passes last_receiver j (Ok tt) (low, refl), seat_is j low, e)

  -- ---- walls are others: slot k then holds o

  module _ (k : ℕ) (o : Option Wall) where
    -- a pair among the walls that then stand
    abbrev among_then : Pairing
    among_then = pair_of (present (set W k o))

    abbrev HeardThen : Type 0
    HeardThen = AllHear (present (set W k o)) (present S) (present R)

    renewed : map (omap (follow (renewing among_then (present S)))) (fill W S R).receivers ≡ (fill (set W k o) S R).receivers
    renewed = omap_twice afresh (follow (renewing among_then (present S))) _ R (λ r. refl)

    heard_then : bar_of (renewing among_then (present S)) (fill W S R).receivers ≡ none → HeardThen
    heard_then bars =
        all_map _ (HearsAll among_then (present S)) (λ r. together_each among_then r (present S)) (present R)
        (bars_pass (together among_then (present S)) 0 R (sym (bars_omap afresh (λ x. together among_then (present S) x.who) 0 R) ∙ bars))

    no_bars : HeardThen → bar_of (renewing among_then (present S)) (fill W S R).receivers ≡ none
    no_bars hears =
        bars_omap afresh (λ x. together among_then (present S) x.who) 0 R
        ∙ bars_none (together among_then (present S)) 0 R
        (all_map (HearsAll among_then (present S)) _ (λ r. each_together among_then r (present S)) (present R) hears)

    all_fit : every (renewing among_then (present S)).fits (present (fill W S R).receivers) ≡ true
    all_fit =
        every_all (λ (x : Held). true) (present (fill W S R).receivers)
        (all_here (λ (x : Held). true ≡ true) (λ x. refl) (present (fill W S R).receivers))

    change_wall_lem : (N : Type 0) (Q : Answer → Type 0) (P : Book → Type 0) → (N → HeardThen) → (HeardThen → N × P (fill (set W k o) S R))
        → Fine N Q P (change_wall k o (fill W S R))
    change_wall_lem N Q P need give =
        past_followed N Q P (renewing among_then (present S)) (λ rs. book S rs (set W k o)) (fill W S R) (λ n. no_bars (need n)) all_fit
        (λ bars. subst (λ rs. N × P (book S rs (set W k o))) (sym renewed) (give (heard_then bars)))

    stand_then : All WallStands (present (o ∷ [])) → HeardThen → Standing W S R → Standing (set W k o) S R
    stand_then ok hears p = record {
      wall_slots_lem = length-set W k o ∙ p.wall_slots_lem;
      source_slots_lem = p.source_slots_lem;
      seats = p.seats;
      walls = all_set WallStands W k o ok p.walls;
      sources = p.sources;
      receivers = p.receivers;
      heard = hears;
    }

  pub place_wall_lem : (k : ℕ) (w : Wall) → Standing W S R → Leads (PlaceWall k w) (place_wall k w (fill W S R))
  unfolding place_wall
  place_wall_lem k w p =
      past_fields _ _ _ last_wall k (wall_verdict w) _ (wall_by w) (λ n. (omega (arith, n.0, many_walls), n.1)) λ ok.
      change_wall_lem k (some w) _ _ _ (λ n. n.2) λ hears. (
        (omega (arith, ok.0, many_walls), ok.1, hears),
        (refl, λ real. stand_then k (some w) (ok.1, tt) hears p),
      )

  pub withdraw_wall_lem : (k : ℕ) → Standing W S R → Leads (WithdrawWall k) (withdraw_wall k (fill W S R))
  unfolding withdraw_wall
  withdraw_wall_lem k p =
      past_fields _ _ _ last_wall k (Ok tt) _ tt (λ n. (omega (arith, n.0, many_walls), refl)) λ ok.
      past_used _ _ _ (get_or W k none) _ (λ n. ap used (wall_slot_is k ok.0) ∙ n.1) λ w there.
      change_wall_lem k none _ _ _ (λ n. n.2) λ hears. (
        (omega (arith, ok.0, many_walls), ap used (sym (wall_slot_is k ok.0) ∙ there), hears),
        (refl, λ real. stand_then k none tt hears p),
      )
