-- A refusal can be read back from its number and its place: two that a caller cannot tell apart are the same.
-- Assumes nothing.
use mathlib.Core.Path.{◌≡◌, refl, sym, ap, ap₂, ◌∙◌}
use mathlib.Core.List.{[], ◌∷◌}
use lib.ListN.{get_or}
use Prim.Native.Nat.{ℕ}
use native.Mathlib.Omega.{arith}
use Rattle.answer.specs.Table.{number_of, place_of}
use Rattle.answer.specs.declared.Refusal.{Refusal}
use Rattle.answer.specs.declared.Refusal.TheVariants.{Damaged, CutShort, UnknownKind, Leftover, Field, SlowSurface, QuietTruck, Taken, Vacant, TooNear, TooFar, TooLong, TooLoud, TwoWalls}

-- the row n of the table, at a place
abbrev pub row : ℕ → ℕ → Refusal
row n p =
    get_or (
    Damaged ∷ Damaged ∷ CutShort ∷ UnknownKind ∷ Leftover ∷ Field p ∷ SlowSurface ∷ QuietTruck ∷ Taken ∷ Vacant ∷ TooNear p ∷ TooFar p ∷ TooLong p ∷ TooLoud p ∷ TwoWalls p ∷ []
    ) n Damaged

pub row_is : (r : Refusal) → row (number_of r) (place_of r) ≡ r
row_is Damaged = refl
row_is CutShort = refl
row_is UnknownKind = refl
row_is Leftover = refl
row_is (Field f) = refl
row_is SlowSurface = refl
row_is QuietTruck = refl
row_is Taken = refl
row_is Vacant = refl
row_is (TooNear s) = refl
row_is (TooFar s) = refl
row_is (TooLong s) = refl
row_is (TooLoud s) = refl
row_is (TwoWalls s) = refl

pub told_apart : (r s : Refusal) → number_of r ≡ number_of s → place_of r ≡ place_of s → r ≡ s
told_apart r s n p = sym (row_is r) ∙ ap₂ row n p ∙ row_is s

-- number 1 is damage, and no refusal has the number of what is done
pub one_is_damage : (r : Refusal) → number_of r ≡ 1 → r ≡ Damaged
one_is_damage r e = sym (row_is r) ∙ ap (λ (n : ℕ). row n (place_of r)) e

pub never_done : (r : Refusal) → number_of r ≡ 0 → ⊥
never_done r e =
    let q : r ≡ Damaged = sym (row_is r) ∙ ap (λ (n : ℕ). row n (place_of r)) e in
    omega (arith, ap number_of q, e)
