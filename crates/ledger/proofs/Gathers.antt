-- The gathering of all standing sources at a receiver: its steps, from the lowest slot on.
-- No sum can pass the most that it may be: there is at most one share a source slot, and each is at most 10^15. Assumes nothing.
use Rattle.std.specs.Prelude.{Ok, Err}
use mathlib.Core.Path.{◌≡◌, refl, sym, ap, ◌∙◌}
use mathlib.Core.Bool.{true}
use mathlib.Core.Option.{Option, none, some}
use mathlib.Core.List.{List, [], ◌∷◌}
use Prim.Native.Nat.{ℕ, suc, ◌+◌, ◌*◌, ◌≤◌, ◌<◌}
use native.Mathlib.Numerals.{add-one}
use native.Mathlib.Omega.{arith}
use lib.ListN.{length, get_or, drop, drop_of_length-le}
use lib.Seq.{drop-cons}
use borrow.Author.Tests.{le-leb}
use Rattle.answer.specs.declared.Refusal.{Refusal}
use Rattle.road.specs.declared.Source.{Source}
use Rattle.road.specs.declared.Receiver.{Receiver}
use Rattle.road.specs.declared.Shares.{Shares}
use Rattle.road.specs.declared.Bar.{Bar}
use Rattle.road.specs.Results.{Pair}
use Rattle.road.specs.Pairs.{Pairing, most_share, share_in, Bounded}
use Rattle.road.proofs.Pairs.{heard_most}
use Rattle.account.specs.declared.Account.{Account}
use Rattle.level.specs.Level.{top}
use Rattle.account.specs.Account.{plus_of, room, nothing}
use Rattle.store.specs.Store.{source_count}
use Rattle.ledger.specs.Lists.{present, sum_of, bar_at, or_bar, first_bar, weigh}
use Rattle.ledger.specs.Ledger.{unless_stopped, gathered}

module _ (pair : Pairing) (bounded : Bounded pair) (r : Receiver) where
  abbrev pair_at : Source → Pair
  pair_at s = pair s r

  abbrev total : ℕ → List (Option Source) → ℕ
  total p l = sum_of (λ (s : Source). share_in (pair s r) p) (present l)

  -- a sum so far: with the rest it makes the whole, and it is at most 10^15 for each slot passed
  pub record Part (l : List (Option Source)) (i p n : ℕ) : Type 0 where
    pub whole : n + total p (drop i l) ≡ total p l
    pub small : n ≤ i * most_share

  pub record Gathers (l : List (Option Source)) (sums : Account) (i : ℕ) : Type 0 where
    pub stop : first_bar pair_at 0 l ≡ first_bar pair_at i (drop i l)
    pub day : Part l i 0 sums.day
    pub evening : Part l i 1 sums.evening
    pub night : Part l i 2 sums.night

  part_begun : (l : List (Option Source)) (p : ℕ) → Part l 0 p 0
  part_begun l p = record { whole = omega arith; small = omega arith }

  pub gather_begun : (l : List (Option Source)) → Gathers l nothing 0
  gather_begun l = record { stop = refl; day = part_begun l 0; evening = part_begun l 1; night = part_begun l 2 }

  module _ (l : List (Option Source)) (i : ℕ) (h : i < length l) where
    rest_is : (o : Option Source) → get_or l i none ≡ o → drop i l ≡ o ∷ drop (i + 1) l
    rest_is o e = rw add-one (drop-cons l i none h) ∙ ap (λ (x : Option Source). x ∷ drop (i + 1) l) e

    part_free : (p n : ℕ) → get_or l i none ≡ none → Part l i p n → Part l (i + 1) p n
    part_free p n e g = record {
      whole = sym (ap (λ (m : List (Option Source)). n + total p m) (rest_is none e)) ∙ g.whole;
      small = omega (arith, g.small);
    }

    part_heard : (p n x : ℕ) (s : Source) → get_or l i none ≡ some s → x ≡ share_in (pair s r) p → Part l i p n → Part l (i + 1) p (n + x)
    part_heard p n x s e f g = record {
      whole = omega (arith, ap (total p) (rest_is (some s) e), g.whole);
      small = omega (arith, g.small, bounded s r p);
    }

    module _ (sums : Account) (g : Gathers l sums i) where
      stop_next : (o : Option Source) → get_or l i none ≡ o → first_bar pair_at i (o ∷ drop (i + 1) l) ≡ first_bar pair_at (suc i) (drop (i + 1) l)
          → first_bar pair_at 0 l ≡ first_bar pair_at (i + 1) (drop (i + 1) l)
      stop_next o e f = g.stop ∙ ap (first_bar pair_at i) (rest_is o e) ∙ f ∙ ap (λ (n : ℕ). first_bar pair_at n (drop (i + 1) l)) (sym (add-one i))

      pub gather_free : get_or l i none ≡ none → Gathers l sums (i + 1)
      unfolding first_bar
      gather_free e = record {
        stop = stop_next none e refl;
        day = part_free 0 _ e g.day;
        evening = part_free 1 _ e g.evening;
        night = part_free 2 _ e g.night;
      }

      pub gather_heard : (s : Source) (x : Shares) → get_or l i none ≡ some s → pair s r ≡ Ok x → Gathers l (plus_of sums x) (i + 1)
      unfolding first_bar
      gather_heard s x e t =
          record {
            stop = stop_next (some s) e (ap (λ (q : Pair). or_bar i q (first_bar pair_at (suc i) (drop (i + 1) l))) t);
            day = part_heard 0 _ x.day s e (ap (λ (q : Pair). share_in q 0) (sym t)) g.day;
            evening = part_heard 1 _ x.evening s e (ap (λ (q : Pair). share_in q 1) (sym t)) g.evening;
            night = part_heard 2 _ x.night s e (ap (λ (q : Pair). share_in q 2) (sym t)) g.night;
          }

      pub gather_room : (s : Source) (x : Shares) → i < source_count → pair s r ≡ Ok x → room sums x ≡ true
      gather_room s x b t =
          let k = heard_most pair bounded s r x t in
          let d : sums.day + x.day ≤ top = omega (arith, g.day.small, k 0) in
          let e : sums.evening + x.evening ≤ top = omega (arith, g.evening.small, k 1) in
          let n : sums.night + x.night ≤ top = omega (arith, g.night.small, k 2) in
          rw (le-leb _ _ d, le-leb _ _ e, le-leb _ _ n)

      pub gather_barred : (s : Source) (b : Bar) → get_or l i none ≡ some s → pair s r ≡ Err b → first_bar pair_at 0 l ≡ some (bar_at i b)
      unfolding first_bar
      gather_barred s b e t = g.stop ∙ ap (first_bar pair_at i) (rest_is (some s) e) ∙ ap (λ (q : Pair). or_bar i q (first_bar pair_at (suc i) (drop (i + 1) l))) t

  pub gather_over : (l : List (Option Source)) (sums : Account) (i : ℕ) → length l ≤ i → Gathers l sums i → Ok sums ≡ gathered pair r l
  unfolding first_bar
  gather_over l sums i h g =
      let d : drop i l ≡ [] = drop_of_length-le l {i = i} h in
      let t : (p : ℕ) → total p (drop i l) ≡ 0 = λ p. ap (total p) d in
      let day : sums.day ≡ total 0 l = omega (arith, g.day.whole, t 0) in
      let evening : sums.evening ≡ total 1 l = omega (arith, g.evening.whole, t 1) in
      let night : sums.night ≡ total 2 l = omega (arith, g.night.whole, t 2) in
      (λ j. Ok (record { day = day j; evening = evening j; night = night j }))
      ∙ sym (ap (λ (b : Option Refusal). unless_stopped b (Ok (weigh pair (present l) r).sums)) (g.stop ∙ ap (first_bar pair_at i) d))

  pub gather_stopped : (l : List (Option Source)) (why : Refusal) → first_bar pair_at 0 l ≡ some why → Err why ≡ gathered pair r l
  gather_stopped l why f = sym (ap (λ (b : Option Refusal). unless_stopped b (Ok (weigh pair (present l) r).sums)) f)
