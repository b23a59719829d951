-- A loop that fills an array with what a function makes of a list, or turns each element into that: the first j are done. Assumes nothing.
use mathlib.Core.Path.{◌≡◌, refl, sym, ap, ap₂, ◌∙◌}
use mathlib.Core.List.{List, [], ◌∷◌, ◌++◌, map}
use Prim.Native.Nat.{ℕ, zero, suc, ◌+◌, ◌≤◌, ◌<◌}
use native.Mathlib.Numerals.{add-one}
use native.Mathlib.Omega.{arith}
use lib.ListN.{length, get_or, set, take, length-set}
use lib.Seq.{take-suc, take-suc-set}
use Rattle.ledger.proofs.Rounds.{map_snoc}

module _ {A B : Type 0} (f : A → B) (d : A) (src : List A) where
  pub record Filled (out : List B) (j : ℕ) : Type 0 where
    pub count : length out ≡ length src
    pub done : take j out ≡ map f (take j src)

  pub filled_none : (out : List B) → length out ≡ length src → Filled out 0
  filled_none out h = record { count = h; done = refl }

  pub filled_next : (out : List B) (j : ℕ) (b : B) → j < length src → b ≡ f (get_or src j d) → Filled out j → Filled (set out j b) (j + 1)
  filled_next out j b h e g =
      let u : take (j + 1) (set out j b) ≡ take j out ++ (b ∷ []) = rw add-one (take-suc-set out j b (omega (arith, g.count))) in
      let v : take (j + 1) src ≡ take j src ++ (get_or src j d ∷ []) = rw add-one (take-suc src j d h) in
      record {
        count = length-set out j b ∙ g.count;
        done =
            u ∙ ap₂ (λ (l : List B) (x : B). l ++ (x ∷ [])) g.done e
            ∙ sym (map_snoc f (take j src) (get_or src j d)) ∙ sym (ap (map f) v);
      }

-- ---- each element is turned into what the function makes of it, in its place

module _ {A : Type 0} (f : A → A) where
  pub turned : List A → ℕ → List A
  turned l zero = l
  turned [] (suc j) = []
  turned (a ∷ l) (suc j) = f a ∷ turned l j

  pub turned_none : (l : List A) → l ≡ turned l 0
  unfolding turned
  turned_none l = refl

  pub turned_here : (d : A) (l : List A) (j : ℕ) → get_or (turned l j) j d ≡ get_or l j d
  unfolding turned
  turned_here d l zero = refl
  turned_here d [] (suc j) = refl
  turned_here d (a ∷ l) (suc j) = turned_here d l j

  pub turned_next : (d : A) (l : List A) (j : ℕ) → set (turned l j) j (f (get_or l j d)) ≡ turned l (suc j)
  unfolding turned
  turned_next d [] zero = refl
  turned_next d (a ∷ l) zero = refl
  turned_next d [] (suc j) = refl
  turned_next d (a ∷ l) (suc j) = ap (λ (m : List A). f a ∷ m) (turned_next d l j)

  pub turned_all : (l : List A) (j : ℕ) → length l ≤ j → turned l j ≡ map f l
  unfolding turned
  turned_all [] zero h = refl
  turned_all (a ∷ l) zero h = absurd (omega arith)
  turned_all [] (suc j) h = refl
  turned_all (a ∷ l) (suc j) h = ap (λ (m : List A). f a ∷ m) (turned_all l j (omega arith))
