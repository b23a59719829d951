-- Accounts afresh: what a receiver comes to with all sources, that it is what a change of walls makes of it, and that no sum is too large.
-- Assumes nothing.
use Rattle.std.specs.Prelude.{None, Some, Ok, Err}
use mathlib.Core.Path.{◌≡◌, refl, sym, ap, ap₂, ◌∙◌, subst}
use mathlib.Core.Bool.{Bool, true}
use mathlib.Core.Option.{Option, none, some}
use mathlib.Core.List.{List, [], ◌∷◌, map}
use mathlib.Core.List.{map-map, map-id}
use Prim.Native.Nat.{ℕ, suc, ◌+◌, ◌*◌, ◌≤◌, ◌<◌}
use native.Mathlib.Numerals.{add-one}
use native.Mathlib.Omega.{arith}
use lib.ListN.{length, get_or, drop, length-map, get_or-map, drop_of_length-le}
use lib.Seq.{drop-cons}
use Rattle.answer.specs.declared.Refusal.{Refusal}
use Rattle.road.specs.declared.Source.{Source}
use Rattle.road.specs.declared.Receiver.{Receiver}
use Rattle.road.specs.declared.Bar.{Bar}
use Rattle.road.specs.Results.{Pair}
use Rattle.road.specs.Judge.{receiver_verdict}
use Rattle.road.specs.Pairs.{Pairing, most_share, share_in, Bounded}
use Rattle.account.specs.declared.Account.{Account}
use Rattle.store.specs.declared.Held.{Held}
use Rattle.account.specs.Account.{plus_of, nothing}
use Rattle.store.specs.Slots.{Each}
use Rattle.store.specs.Store.{source_count, receiver_count, HeldStands, Seat}
use Rattle.ledger.specs.declared.Tally.{Tally}
use Rattle.ledger.specs.Lists.{omap, present, every, bar_at, or_bar, first_bar, weigh}
use Rattle.ledger.specs.Changes.{follow, bar_of, onward, together, renewing}
use Rattle.ledger.specs.Ledger.{to_seat, unless_stopped, in_time, rounded, Block, tally, begun, or_block, heard_by, heard_in, heard_from, heard_at, heard_all, Ready, AllReady, blocked_or, first_block}

-- ---- one receiver with all sources

-- a block, and then what the rest of the sources make of the point
abbrev or_pair : Block → Pair → Block
or_pair None (Ok h) = None
or_pair None (Err b) = Some b
or_pair (Some a) q = Some a

module _ (pair : Pairing) where
  abbrev added : Account → List Source → Receiver → Account
  added a ss r = let w = (weigh pair ss r).sums in record { day = a.day + w.day; evening = a.evening + w.evening; night = a.night + w.night }

  abbrev at : Receiver → Account → Block → Tally
  at r a b = tally (to_seat (some (record { who = r; sums = a }))) b

  all_heard : (ss : List Source) (r : Receiver) (a : Account) (b : Block)
      → heard_all pair ss (at r a b) ≡ at r (added a ss r) (or_pair b (together pair ss r))
  all_heard [] r a b = λ i. at r (record { day = zeros a.day i; evening = zeros a.evening i; night = zeros a.night i }) (nobody b i)
    where
      zeros : (n : ℕ) → n ≡ n + 0
      zeros n = omega arith

      nobody : (b : Block) → b ≡ or_pair b (together pair [] r)
      nobody None = refl
      nobody (Some c) = refl
  all_heard (s ∷ ss) r a b = go (pair s r) refl (λ a b. all_heard ss r a b)
    where
      go : (p : Pair) → pair s r ≡ p → ((a : Account) (b : Block) → heard_all pair ss (at r a b) ≡ at r (added a ss r) (or_pair b (together pair ss r)))
          → heard_all pair (s ∷ ss) (at r a b) ≡ at r (added a (s ∷ ss) r) (or_pair b (together pair (s ∷ ss) r))
      go (Ok h) e ih =
          let w = (weigh pair ss r).sums in
          let d : a.day + h.day + w.day ≡ a.day + (share_in (pair s r) 0 + w.day) = omega (arith, ap (λ (q : Pair). share_in q 0) e) in
          let f : a.evening + h.evening + w.evening ≡ a.evening + (share_in (pair s r) 1 + w.evening) = omega (arith, ap (λ (q : Pair). share_in q 1) e) in
          let n : a.night + h.night + w.night ≡ a.night + (share_in (pair s r) 2 + w.night) = omega (arith, ap (λ (q : Pair). share_in q 2) e) in
          ap (λ (q : Pair). heard_all pair ss (heard_by q (record { who = r; sums = a }) b)) e
          ∙ ih (plus_of a h) b
          ∙ (λ i. at r (record { day = d i; evening = f i; night = n i }) (or_pair b (onward (sym e i) (together pair ss r))))
      go (Err c) e ih =
          let w = (weigh pair ss r).sums in
          let d : a.day + w.day ≡ a.day + (share_in (pair s r) 0 + w.day) = omega (arith, ap (λ (q : Pair). share_in q 0) e) in
          let f : a.evening + w.evening ≡ a.evening + (share_in (pair s r) 1 + w.evening) = omega (arith, ap (λ (q : Pair). share_in q 1) e) in
          let n : a.night + w.night ≡ a.night + (share_in (pair s r) 2 + w.night) = omega (arith, ap (λ (q : Pair). share_in q 2) e) in
          ap (λ (q : Pair). heard_all pair ss (heard_by q (record { who = r; sums = a }) b)) e
          ∙ ih a (or_block b c)
          ∙ (λ i. at r (record { day = d i; evening = f i; night = n i }) (blocked b c i))
          ∙ (λ i. at r (added a (s ∷ ss) r) (or_pair b (onward (sym e i) (together pair ss r))))
        where
          blocked : (b : Block) (c : Bar) → or_pair (or_block b c) (together pair ss r) ≡ or_pair b (onward (Err c) (together pair ss r))
          blocked None c = refl
          blocked (Some d) c = refl

  nobody_heard : (ss : List Source) → heard_all pair ss (begun none) ≡ begun none
  nobody_heard [] = refl
  nobody_heard (s ∷ ss) = nobody_heard ss

  -- ---- all receivers: where they are blocked, and their seats, are those of the change

  module _ (ss : List Source) where
    abbrev comes_to : Option Held → Tally
    comes_to o = heard_all pair ss (begun o)

    some_comes : (x : Held) → comes_to (some x) ≡ at x.who (weigh pair ss x.who).sums (or_pair None (together pair ss x.who))
    some_comes x = all_heard ss x.who nothing None ∙ (λ i. at x.who (record { day = zeros w.day i; evening = zeros w.evening i; night = zeros w.night i }) (or_pair None (together pair ss x.who)))
      where
        w : Account
        w = (weigh pair ss x.who).sums

        zeros : (n : ℕ) → 0 + n ≡ n
        zeros n = omega arith

    pub blocks_are : (j : ℕ) (l : List (Option Held)) → first_block j (map comes_to l) ≡ first_bar (λ (x : Held). together pair ss x.who) j l
    unfolding first_block first_bar
    blocks_are j [] = refl
    blocks_are j (none ∷ l) =
        ap (λ (t : Tally). blocked_or j t.block (first_block (suc j) (map comes_to l))) (nobody_heard ss) ∙ blocks_are (suc j) l
    blocks_are j (some x ∷ l) =
        ap (λ (t : Tally). blocked_or j t.block (first_block (suc j) (map comes_to l))) (some_comes x)
        ∙ go (together pair ss x.who) (first_block (suc j) (map comes_to l))
        ∙ ap (or_bar j (together pair ss x.who)) (blocks_are (suc j) l)
      where
        go : (q : Pair) (o : Option Refusal) → blocked_or j (or_pair None q) o ≡ or_bar j q o
        go (Ok h) o = refl
        go (Err b) o = refl

    pub seats_are : (l : List (Option Held)) → map (λ (t : Tally). t.seat) (map comes_to l) ≡ map to_seat (map (omap (follow (renewing pair ss))) l)
    seats_are [] = refl
    seats_are (none ∷ l) = ap₂ ◌∷◌ (ap (λ (t : Tally). t.seat) (nobody_heard ss)) (seats_are l)
    seats_are (some x ∷ l) = ap₂ ◌∷◌ (ap (λ (t : Tally). t.seat) (some_comes x)) (seats_are l)

    all_fit : (l : List Held) → every (λ x. true) l ≡ true
    all_fit [] = refl
    all_fit (x ∷ l) = all_fit l

    -- the round of a change of walls
    pub afresh_rounded : (l : List (Option Held)) (ts : List Tally) → ts ≡ map comes_to l
        → unless_stopped (first_block 0 ts) (Ok (map (λ (t : Tally). t.seat) ts)) ≡ rounded (renewing pair ss) l
    afresh_rounded l ts e =
        ap (λ (us : List Tally). unless_stopped (first_block 0 us) (Ok (map (λ (t : Tally). t.seat) us))) e
        ∙ ap₂ (λ (o : Option Refusal) (l : List Seat). unless_stopped o (Ok l)) (blocks_are 0 l) (seats_are l)
        ∙ sym (ap (λ (b : Bool). unless_stopped (bar_of (renewing pair ss) l) (in_time b (map to_seat (map (omap (follow (renewing pair ss))) l)))) (all_fit (present l)))

  -- ---- one source after the other

  abbrev left : List (Option Source) → ℕ → List Source
  left l i = present (drop i l)

  pub heard_begun : (l : List (Option Source)) (rs : List (Option Held))
      → map (heard_all pair (left l 0)) (map begun rs) ≡ map (λ o. heard_all pair (present l) (begun o)) rs
  heard_begun l rs = map-map (heard_all pair (present l)) begun rs

  pub heard_next : (l : List (Option Source)) (i : ℕ) (ts : List Tally) → i < length l
      → map (heard_all pair (left l (i + 1))) (heard_at pair (get_or l i none) ts) ≡ map (heard_all pair (left l i)) ts
  heard_next l i ts h =
      let e : drop i l ≡ get_or l i none ∷ drop (i + 1) l = rw add-one (drop-cons l i none h) in
      go (get_or l i none) ∙ sym (ap (λ (m : List (Option Source)). map (heard_all pair (present m)) ts) e)
    where
      go : (o : Option Source) → map (heard_all pair (left l (i + 1))) (heard_at pair o ts) ≡ map (heard_all pair (present (o ∷ drop (i + 1) l))) ts
      go none = refl
      go (some s) = map-map (heard_all pair (left l (i + 1))) (heard_from pair s) ts

  pub heard_over : (l : List (Option Source)) (i : ℕ) (ts : List Tally) → length l ≤ i → ts ≡ map (heard_all pair (left l i)) ts
  heard_over l i ts h =
      sym (map-id ts) ∙ sym (ap (λ (m : List (Option Source)). map (heard_all pair (present m)) ts) (drop_of_length-le l {i = i} h))

-- ---- no sum is too large: after n sources each is at most n shares

pub record Counted (n : ℕ) (x : Held) : Type 0 where
  pub stands : receiver_verdict x.who ≡ Ok tt
  pub day : x.sums.day ≤ n * most_share
  pub evening : x.sums.evening ≤ n * most_share
  pub night : x.sums.night ≤ n * most_share

abbrev CountedIn : ℕ → Seat → Type 0
CountedIn n None = Unit {0}
CountedIn n (Some x) = Counted n x

pub record AllCounted (n : ℕ) (ts : List Tally) : Type 0 where
  pub count : length ts ≡ receiver_count
  pub each : (j : ℕ) → CountedIn n (get_or ts j (begun none)).seat

pub counted_ready : (n : ℕ) (ts : List Tally) → n < source_count → AllCounted n ts → AllReady ts
counted_ready n ts h g = record { count = g.count; each = λ j. go (get_or ts j (begun none)).seat (g.each j) }
  where
    go : (t : Seat) → CountedIn n t → Ready t
    go None c = tt
    go (Some x) c = record { stands = c.stands; day = omega (arith, c.day); evening = omega (arith, c.evening); night = omega (arith, c.night) }

pub counted_begun : (l : List (Option Held)) → length l ≡ receiver_count → Each HeldStands l → AllCounted 0 (map begun l)
counted_begun l n h = record {
  count = length-map l begun ∙ n;
  each = λ j. subst (λ (t : Tally). CountedIn 0 t.seat) (sym (get_or-map begun l j none)) (go j (get_or l j none) refl);
}
  where
    go : (j : ℕ) (o : Option Held) → get_or l j none ≡ o → CountedIn 0 (begun o).seat
    go j none e = tt
    go j (some x) e = record { stands = (h j x e).0; day = omega arith; evening = omega arith; night = omega arith }

-- with one share more at most
counted_same : (n : ℕ) (t : Seat) → CountedIn n t → CountedIn (n + 1) t
counted_same n None c = tt
counted_same n (Some x) c = record { stands = c.stands; day = omega (arith, c.day); evening = omega (arith, c.evening); night = omega (arith, c.night) }

module _ (pair : Pairing) (bounded : Bounded pair) where
  counted_more : (n : ℕ) (s : Source) (t : Seat) (b : Block) → CountedIn n t → CountedIn (n + 1) (heard_in pair s t b).seat
  counted_more n s None b c = tt
  counted_more n s (Some x) b c = more (pair s x.who) refl
    where
      more : (p : Pair) → pair s x.who ≡ p → CountedIn (n + 1) (heard_by p x b).seat
      more (Ok h) e =
          let b : (i : ℕ) → share_in (Ok h) i ≤ most_share = λ i. subst (λ (q : Pair). share_in q i ≤ most_share) e (bounded s x.who i) in
          record { stands = c.stands; day = omega (arith, c.day, b 0); evening = omega (arith, c.evening, b 1); night = omega (arith, c.night, b 2) }
      more (Err why) e = counted_same n (Some x) c

  pub counted_next : (n : ℕ) (o : Option Source) (ts : List Tally) → AllCounted n ts → AllCounted (n + 1) (heard_at pair o ts)
  counted_next n none ts g = record { count = g.count; each = λ j. counted_same n (get_or ts j (begun none)).seat (g.each j) }
  counted_next n (some s) ts g = record {
    count = length-map ts (heard_from pair s) ∙ g.count;
    each = λ j. let t = get_or ts j (begun none) in
        subst (λ (u : Tally). CountedIn (n + 1) u.seat) (sym (get_or-map (heard_from pair s) ts j (begun none))) (counted_more n s t.seat t.block (g.each j));
  }

-- ---- the first that is blocked: what is left to look at decides

module _ (ts : List Tally) (j : ℕ) (h : j < length ts) (g : first_block 0 ts ≡ first_block j (drop j ts)) where
  tally_at : first_block j (drop j ts) ≡ first_block j (get_or ts j (begun none) ∷ drop (j + 1) ts)
  tally_at = ap (first_block j) (rw add-one (drop-cons ts j (begun none) h))

  pub block_next : (get_or ts j (begun none)).block ≡ None → first_block 0 ts ≡ first_block (j + 1) (drop (j + 1) ts)
  unfolding first_block
  block_next e =
      g ∙ tally_at ∙ ap (λ (b : Block). blocked_or j b (first_block (suc j) (drop (j + 1) ts))) e
      ∙ ap (λ (n : ℕ). first_block n (drop (j + 1) ts)) (sym (add-one j))

  pub block_here : (b : Bar) → (get_or ts j (begun none)).block ≡ Some b → first_block 0 ts ≡ some (bar_at j b)
  unfolding first_block
  block_here b e = g ∙ tally_at ∙ ap (λ (c : Block). blocked_or j c (first_block (suc j) (drop (j + 1) ts))) e

pub block_over : (ts : List Tally) (j : ℕ) → length ts ≤ j → first_block 0 ts ≡ first_block j (drop j ts) → first_block 0 ts ≡ none
unfolding first_block
block_over ts j h g = g ∙ ap (first_block j) (drop_of_length-le ts {i = j} h)
