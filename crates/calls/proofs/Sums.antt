-- What holds of each in a list, and the sums of an account: no bar means that every pair is heard; no sum passes the most that it may be.
-- Assumes nothing.
use Rattle.std.specs.Prelude.{Ok, Err}
use mathlib.Core.Path.{◌≡◌, refl, subst, ◌∙◌}
use mathlib.Core.Bool.{Bool, true, ◌&&◌}
use mathlib.Core.Option.{Option, none, some}
use mathlib.Core.List.{List, [], ◌∷◌}
use Prim.Native.Nat.{ℕ, suc, ◌*◌, ◌≤◌, zero-le}
use native.Mathlib.Nat.{suc-mul}
use native.Mathlib.Omega.{arith}
use lib.Dec.{leb}
use lib.ListN.{length}
use borrow.Author.Tests.{le-leb}
use Rattle.road.specs.declared.Source.{Source}
use Rattle.road.specs.declared.Receiver.{Receiver}
use Rattle.road.specs.Results.{Pair}
use Rattle.road.specs.Pairs.{Pairing, is_heard, most_share, share_in, Bounded}
use Rattle.level.specs.Level.{top}
use Rattle.account.specs.Account.{sound}
use Rattle.store.specs.Store.{source_count, source_slots}
use Rattle.store.proofs.Laws.{many_sources}
use Rattle.ledger.specs.Lists.{present, All, sum_of, or_bar, first_bar, weigh}

-- where `cc` finds that two constructors are equal
pub never : {A : Type 0} → ◌≡◌ {A = ℕ} 0 1 → A
never e = absurd (omega arith)

pub and_both : {a b : Bool} → a ≡ true → b ≡ true → a && b ≡ true
and_both p q = rw (p, q)

-- ---- what holds of each

module _ {A : Type 0} (P Q : A → Type 0) where
  pub all_map : ((a : A) → P a → Q a) → (l : List A) → All P l → All Q l
  all_map f [] p = tt
  all_map f (a ∷ l) p = (f a p.0, all_map f l p.1)

module _ {A : Type 0} where
  pub sum_most : (f : A → ℕ) (most : ℕ) (l : List (Option A)) → All (λ a. f a ≤ most) (present l) → sum_of f (present l) ≤ length l * most
  sum_most f most [] h = zero-le
  sum_most f most (none ∷ l) h = omega (arith, sum_most f most l h, suc-mul (length l) most)
  sum_most f most (some a ∷ l) h = omega (arith, h.0, sum_most f most l h.1, suc-mul (length l) most)

-- ---- pairs that are heard

module _ {A : Type 0} (pair : A → Pair) where
  abbrev pub heard_all : List (Option A) → Type 0
  heard_all l = All (λ a. is_heard (pair a) ≡ true) (present l)

  pub bars_pass : (j : ℕ) (l : List (Option A)) → first_bar pair j l ≡ none → heard_all l
  unfolding first_bar
  bars_pass j [] e = tt
  bars_pass j (none ∷ l) e = bars_pass (suc j) l e
  bars_pass j (some a ∷ l) e = go (pair a) (λ f. bars_pass (suc j) l f) e
    where
      go : (p : Pair) → (first_bar pair (suc j) l ≡ none → heard_all l) → or_bar j p (first_bar pair (suc j) l) ≡ none → (is_heard p ≡ true) × heard_all l
      go (Ok h) ih e = (refl, ih e)
      go (Err b) ih e = never cc

-- a receiver hears each of these sources
abbrev pub HearsAll : Pairing → List Source → Receiver → Type 0
HearsAll pair ss r = All (λ s. is_heard (pair s r) ≡ true) ss

-- a source a slot at most, each of at most 10^15: no sum passes the most that it may be
pub weigh_sound : (pair : Pairing) → Bounded pair → (S : List (Option Source)) (r : Receiver) → length S ≡ source_slots → sound (weigh pair (present S) r).sums ≡ true
weigh_sound pair bounded S r e = and_both (and_both (below 0) (below 1)) (below 2)
  where
    all : (k : ℕ) (l : List Source) → All (λ s. share_in (pair s r) k ≤ most_share) l
    all k [] = tt
    all k (s ∷ l) = (bounded s r k, all k l)

    below : (k : ℕ) → leb (sum_of (λ s. share_in (pair s r) k) (present S)) top ≡ true
    below k =
        let q : length S ≡ source_count = e ∙ many_sources in
        let m = sum_most (λ s. share_in (pair s r) k) most_share S (all k (present S)) in
        let n : sum_of (λ s. share_in (pair s r) k) (present S) ≤ source_count * most_share = subst (λ n. sum_of (λ s. share_in (pair s r) k) (present S) ≤ n * most_share) q m in
        le-leb (sum_of (λ s. share_in (pair s r) k) (present S)) top (omega (arith, n))
