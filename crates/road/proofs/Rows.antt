-- The laws of the tables of fields: values and what has them, the numbers of the code's rows, and the room in records and slots.
-- Assumes nothing.
use Prim.Native.Nat.{ℕ, zero, suc, ◌+◌, ◌-◌, ◌*◌, ◌^◌, ◌≤◌, ◌<◌}
use mathlib.Core.Path.{◌≡◌, refl, sym, ap, ◌∙◌, subst, subst⁻¹}
use mathlib.Core.Bool.{Bool, true, ◌&&◌}
use mathlib.Core.List.{List, [], ◌∷◌, ◌++◌}
use native.Mathlib.Nat.{lt_of_lt_of_le}
use native.Mathlib.Omega.{arith}
use lib.Dec.{leb, ltb}
use lib.ListN.{length, get_or, take, drop, length-drop}
use lib.Pow.{pow_mono}
use lib.Seq.{drop-nil, take_all}
use borrow.Author.Tests.{leb-true, ltb-true}
use Rattle.layout.specs.Layout.{Within}
use Rattle.layout.proofs.Bounds.{both}
use Rattle.course.specs.declared.Course.{Course}
use Rattle.road.specs.declared.Source.{Source}
use Rattle.road.specs.declared.Receiver.{Receiver}
use Rattle.road.specs.Fields.{Row, source_table, receiver_table, source_of, receiver_of, values_by, bits_by, slot_bits_by, number_at, rows_by, Fit}
use Rattle.road.proofs.Periods.{periods_again}

-- ---- values and what has them

pub source_again : (s : Source) → length s.traffic ≡ 3 → source_of s.course (values_by source_table s) ≡ s
source_again s h = periods_again s h

pub receiver_again : (r : Receiver) → receiver_of (values_by receiver_table r) ≡ r
receiver_again r = refl

-- the first n values
abbrev pub upto : (ℕ → ℕ) → ℕ → List ℕ
upto value zero = []
upto value (suc n) = value 0 ∷ upto (λ i. value (suc i)) n

spelled : (v : List ℕ) → upto (λ i. get_or v i 0) (length v) ≡ v
spelled [] = refl
spelled (x ∷ v) = ap (λ (l : List ℕ). x ∷ l) (spelled v)

pub all_of : (n : ℕ) (v : List ℕ) → length v ≡ n → upto (λ i. get_or v i 0) n ≡ v
all_of n v h = ap (upto (λ i. get_or v i 0)) (sym h) ∙ spelled v

-- of a longer list too
pub upto_take : (n : ℕ) (v : List ℕ) → upto (λ i. get_or (take n v) i 0) n ≡ upto (λ i. get_or v i 0) n
upto_take zero v = refl
upto_take (suc n) [] = refl
upto_take (suc n) (x ∷ v) = ap (λ (l : List ℕ). x ∷ l) (upto_take n v)

pub source_values_again : (c : Course) (v : List ℕ) → length v ≡ length source_table → values_by source_table (source_of c v) ≡ v
source_values_again c v h = all_of (length source_table) v h

pub receiver_values_again : (v : List ℕ) → length v ≡ length receiver_table → values_by receiver_table (receiver_of v) ≡ v
receiver_values_again v h = all_of (length receiver_table) v h

-- values that fit are those of what has them
pub within_upto : (ws more v : List ℕ) → Within (ws ++ more) v → Within ws (upto (λ i. get_or v i 0) (length ws))
within_upto [] more v f = tt
within_upto (w ∷ ws) more [] f = absurd f
within_upto (w ∷ ws) more (x ∷ v) f = (f.0, within_upto ws more v f.1)

-- ---- the numbers of the code's rows

module _ {A : Type 0} where
  -- all of them have sixteen bits
  abbrev pub small : List (Row A) → Bool
  small [] = true
  small (r ∷ t) = ltb r.number 65536 && small t

  number_small : (t : List (Row A)) (i : ℕ) → small t ≡ true → number_at t i < 65536
  number_small [] i h = omega arith
  number_small (r ∷ t) zero h = ltb-true r.number 65536 (both (ltb r.number 65536) (small t) h).0
  number_small (r ∷ t) (suc i) h = number_small t i (both (ltb r.number 65536) (small t) h).1

  first_column : (t : List (Row A)) (a : A) (i : ℕ) → get_or (get_or (rows_by t a) i []) 0 0 ≡ number_at t i
  first_column [] a i = refl
  first_column (r ∷ t) a zero = refl
  first_column (r ∷ t) a (suc i) = first_column t a i

  module _ (t : List (Row A)) (a : A) (i : ℕ) {rows : List (List ℕ)} (e : rows ≡ rows_by t a) where
    pub number_row : get_or (get_or rows i []) 0 0 ≡ number_at t i
    number_row = ap (λ (l : List (List ℕ)). get_or (get_or l i []) 0 0) e ∙ first_column t a i

    pub number_fits : small t ≡ true → get_or (get_or rows i []) 0 0 < 65536
    number_fits h = omega (arith, number_row, number_small t i h)

  -- ---- a slot has room for what a record has

  abbrev pub roomy : List (Row A) → Bool
  roomy [] = true
  roomy (r ∷ t) = leb r.bits (8 * r.bytes) && roomy t

  below : (r : Row A) (n : ℕ) → leb r.bits (8 * r.bytes) ≡ true → n < 2 ^ r.bits → n < 2 ^ (8 * r.bytes)
  below r n h l = lt_of_lt_of_le l (pow_mono {i = r.bits} {j = 8 * r.bytes} (leb-true r.bits (8 * r.bytes) h))

  pub wider : (t : List (Row A)) (v : List ℕ) → roomy t ≡ true → Within (bits_by t) v → Within (slot_bits_by t) v
  wider [] [] h w = tt
  wider [] (x ∷ v) h w = absurd w
  wider (r ∷ t) [] h w = absurd w
  wider (r ∷ t) (x ∷ v) h w =
      let b = both (leb r.bits (8 * r.bytes)) (roomy t) h in
      (below r x b.0 w.0, wider t v b.1 w.1)

  -- also where more fields follow
  pub fit_wider : (t : List (Row A)) (more : List ℕ) (k : ℕ) (v : List ℕ) → roomy t ≡ true → Fit (bits_by t ++ more) k v → Fit (slot_bits_by t) k v
  fit_wider [] more k v h w = tt
  fit_wider (r ∷ t) more k v h w =
      let b = both (leb r.bits (8 * r.bytes)) (roomy t) h in
      (below r (get_or v k 0) b.0 w.0, fit_wider t more (suc k) v b.1 w.1)

-- ---- values that stand further on

fit_tail : (ws : List ℕ) (k : ℕ) (v : List ℕ) → Fit ws (suc k) v → Fit ws k (drop 1 v)
fit_tail [] k v h = tt
fit_tail (w ∷ ws) k [] h = (h.0, fit_tail ws (suc k) [] h.1)
fit_tail (w ∷ ws) k (x ∷ v) h = (h.0, fit_tail ws (suc k) (x ∷ v) h.1)

fit_drop : (ws : List ℕ) (at : ℕ) (v : List ℕ) → Fit ws at v → Fit ws 0 (drop at v)
fit_drop ws zero v h = h
fit_drop ws (suc at) [] h = subst (Fit ws 0) (drop-nil at) (fit_drop ws at [] (fit_tail ws at [] h))
fit_drop ws (suc at) (x ∷ v) h = fit_drop ws at v (fit_tail ws at (x ∷ v) h)

-- the part of v from index at on, as the code lends it
module _ (at : ℕ) (v : List ℕ) where
  pub part_all : take (length v - at) (drop at v) ≡ drop at v
  part_all = take_all (length v - at) (drop at v) (omega (arith, length-drop at v))

  pub part_fit : (n : ℕ) (ws : List ℕ) → at + n ≤ length v → Fit ws at v
      → (n ≤ length (take (length v - at) (drop at v))) × Fit ws 0 (take (length v - at) (drop at v))
  part_fit n ws l h =
      subst⁻¹ (λ (p : List ℕ). (n ≤ length p) × Fit ws 0 p) part_all (omega (arith, length-drop at v), fit_drop ws at v h)

-- ---- the fields of a record at the front of v

fit_next : (ws : List ℕ) (k x : ℕ) (v : List ℕ) → Fit ws k v → Fit ws (suc k) (x ∷ v)
fit_next [] k x v h = tt
fit_next (w ∷ ws) k x v h = (h.0, fit_next ws (suc k) x v h.1)

pub record_fit : (ws v : List ℕ) → Within ws (take (length ws) v) → Fit ws 0 v
record_fit [] v w = tt
record_fit (n ∷ ws) [] w = absurd w
record_fit (n ∷ ws) (x ∷ v) w = (w.0, fit_next ws 0 x v (record_fit ws v w.1))
