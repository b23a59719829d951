-- Lists of slots, the first bar of a party against the slots of the other, and an account worked out afresh.
-- A slot is used or not; lists begin with the slot 0.
use Rattle.std.specs.Prelude.{ℕ, suc, ◌+◌, Bool, true, ◌&&◌, List, [], ◌∷◌, Ok, Err}
use Rattle.std.proofs.Math.Option.{Option, none, some}
use Rattle.answer.specs.declared.Refusal.{Refusal}
use Rattle.answer.specs.declared.Refusal.TheVariants.{TooNear, TooFar, TooLong, TooLoud, TwoWalls}
use Rattle.road.specs.declared.Source.{Source}
use Rattle.road.specs.declared.Receiver.{Receiver}
use Rattle.road.specs.declared.Bar.{Bar}
use Rattle.road.specs.declared.Bar.TheVariants.{Near, Far, Long, Loud, Walls}
use Rattle.road.specs.Results.{Pair}
use Rattle.road.specs.Pairs.{Pairing, share_in}
use Rattle.store.specs.declared.Held.{Held}

-- ---- lists of slots

abbrev pub omap : {A B : Type 0} → (A → B) → Option A → Option B
omap f none = none
omap f (some a) = some (f a)

module _ {A : Type 0} where
  -- what the used slots hold, in the slots' order
  abbrev pub present : List (Option A) → List A
  present [] = []
  present (none ∷ l) = present l
  present (some a ∷ l) = a ∷ present l

  abbrev pub every : (A → Bool) → List A → Bool
  every p [] = true
  every p (a ∷ l) = p a && every p l

  -- P holds of each
  abbrev pub All : (A → Type 0) → List A → Type 0
  All P [] = Unit {0}
  All P (a ∷ l) = P a × All P l

  abbrev pub sum_of : (A → ℕ) → List A → ℕ
  sum_of f [] = 0
  sum_of f (a ∷ l) = f a + sum_of f l

-- ---- the first bar

-- refusals 10 to 14, with the slot of the other party
abbrev pub bar_at : ℕ → Bar → Refusal
bar_at j Near = TooNear j
bar_at j Far = TooFar j
bar_at j Long = TooLong j
bar_at j Loud = TooLoud j
bar_at j Walls = TwoWalls j

abbrev pub or_bar : ℕ → Pair → Option Refusal → Option Refusal
or_bar j (Ok h) o = o
or_bar j (Err b) o = some (bar_at j b)

module _ {A : Type 0} where
  -- the first pair that is barred, from the lowest slot on
  unfoldable pub first_bar : (A → Pair) → ℕ → List (Option A) → Option Refusal
  first_bar pair j [] = none
  first_bar pair j (none ∷ l) = first_bar pair (suc j) l
  first_bar pair j (some a ∷ l) = or_bar j (pair a) (first_bar pair (suc j) l)

-- ---- accounts

-- a receiver's account, worked out afresh: three sums over the sources, of the shares that each brings
abbrev pub weigh : Pairing → List Source → Receiver → Held
weigh pair ss r = record {
  who = r;
  sums = record { day = sum_of (λ s. share_in (pair s r) 0) ss; evening = sum_of (λ s. share_in (pair s r) 1) ss; night = sum_of (λ s. share_in (pair s r) 2) ss };
}
