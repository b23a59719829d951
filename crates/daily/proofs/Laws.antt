-- Laws of daily figures: the numbers of table 2, the counts that they make, and the verdict of a road by its daily figure.
-- Assumes nothing.
use Rattle.std.specs.Prelude.{Ok, Err}
use Prim.Native.Nat.{ℕ, zero, suc, ◌*◌, ◌^◌, ◌≤◌, ◌<◌}
use mathlib.Core.Path.{◌≡◌, refl, sym, ap, ◌∙◌, subst⁻¹}
use mathlib.Core.List.{List, [], ◌∷◌, ◌++◌}
use native.Mathlib.Omega.{arith}
use lib.ListN.{length, get_or, take}
use lib.Seq.{take_all}
use borrow.Author.Tests.{ltb-false}
use Rattle.layout.specs.Layout.{Within}
use Rattle.layout.specs.Bounds.{first_outside}
use Rattle.layout.proofs.Packing.{within_length, within_at, within_front, within_append}
use Rattle.layout.proofs.Bounds.{inside_at, all_inside, inside_within}
use Rattle.answer.specs.declared.Refusal.TheVariants.{Field}
use Rattle.course.specs.declared.Course.{Course}
use Rattle.road.specs.declared.Source.{Source}
use Rattle.road.specs.Results.{Verdict}
use Rattle.road.specs.Fields.{road_table, traffic_table, values_by, bits_by, slot_bits_by, least_by, most_by, number_at, Fit}
use Rattle.road.specs.Judge.{outside_by, unless_outside, course_verdict, rest_verdict, source_verdict}
use Rattle.road.proofs.Bounds.{times}
use Rattle.road.proofs.Fit.{past, fit_course, source_within}
use Rattle.road.proofs.Rows.{record_fit, fit_wider}
use Rattle.road.proofs.Judged.{outside, inside, road_first, ByFields, outside_by_lem, course_by, rest_by}
use Rattle.daily.specs.declared.Daily.{Daily}
use Rattle.daily.specs.Daily.{table_two, counts_of, counted, last_class, daily_table, daily_bits, daily_fields, daily_of, Figured, Promises, daily_verdict}

-- ---- table 2

-- the greatest factor and part of trucks that a row has
abbrev tops : List ℕ
tops = 62 ∷ 1000 ∷ 62 ∷ 1000 ∷ 62 ∷ 1000 ∷ []

abbrev zeros : List ℕ
zeros = 0 ∷ 0 ∷ 0 ∷ 0 ∷ 0 ∷ 0 ∷ []

rows_inside : (k : ℕ) → k ≤ last_class → first_outside zeros tops (get_or table_two k []) ≡ 6
rows_inside zero h = refl
rows_inside (suc zero) h = refl
rows_inside (suc (suc zero)) h = refl
rows_inside (suc (suc (suc zero))) h = refl
rows_inside (suc (suc (suc (suc k)))) h = absurd (omega arith)

-- each number of a row
row_most : (k i : ℕ) → k ≤ last_class → i < 6 → get_or (get_or table_two k []) i 0 ≤ get_or tops i 0
row_most k i h l = (inside_at zeros tops (get_or table_two k []) i (omega (arith, rows_inside k h))).1

-- so what the code has of a row is small enough for it
pub small_row : {r : List ℕ} (k : ℕ) → r ≡ get_or table_two k [] → k ≤ last_class
    → (get_or r 0 0 ≤ 62) × (get_or r 1 0 ≤ 1000) × (get_or r 2 0 ≤ 62) × (get_or r 3 0 ≤ 1000) × (get_or r 4 0 ≤ 62) × (get_or r 5 0 ≤ 1000)
small_row {r} k e h =
    let b : (i : ℕ) → i < 6 → get_or r i 0 ≤ get_or tops i 0 = λ i l. omega (arith, ap (λ (x : List ℕ). get_or x i 0) e, row_most k i h l) in
    (b 0 (omega arith), b 1 (omega arith), b 2 (omega arith), b 3 (omega arith), b 4 (omega arith), b 5 (omega arith))

-- ---- the counts

-- the street of METHOD 3
street : counts_of (record { class = 3; dtv = 1500 }) ≡ 93000 ∷ 100 ∷ 63000 ∷ 65 ∷ 16500 ∷ 30 ∷ []
street = refl

module _ (d : Daily) (h : d.class ≤ last_class) where
  factor : (i : ℕ) → i < 6 → get_or tops i 0 ≡ 62 → (top : ℕ) → d.dtv * 62 ≤ top → d.dtv * get_or (get_or table_two d.class []) i 0 ≤ top
  factor i l e top t = omega (arith, times d.dtv (get_or (get_or table_two d.class []) i 0) d.dtv 62 (omega arith) (omega (arith, row_most d.class i h l)))

  counts_most : (top : ℕ) → d.dtv * 62 ≤ top → (i : ℕ) → i < 6
      → (get_or zeros i 0 ≤ get_or (counts_of d) i 0) × (get_or (counts_of d) i 0 ≤ get_or (top ∷ 1000 ∷ top ∷ 1000 ∷ top ∷ 1000 ∷ []) i 0)
  counts_most top t zero l = (omega arith, factor 0 l refl top t)
  counts_most top t (suc zero) l = (omega arith, row_most d.class 1 h l)
  counts_most top t (suc (suc zero)) l = (omega arith, factor 2 l refl top t)
  counts_most top t (suc (suc (suc zero))) l = (omega arith, row_most d.class 3 h l)
  counts_most top t (suc (suc (suc (suc zero)))) l = (omega arith, factor 4 l refl top t)
  counts_most top t (suc (suc (suc (suc (suc zero))))) l = (omega arith, row_most d.class 5 h l)
  counts_most top t (suc (suc (suc (suc (suc (suc i)))))) l = absurd (omega arith)

  -- they fit the widths of a record
  pub counts_within : d.dtv < 2 ^ 18 → Within (bits_by traffic_table) (counts_of d)
  counts_within l =
      let b = counts_most 16777215 (omega arith) in
      inside_within (bits_by traffic_table) zeros (16777215 ∷ 1000 ∷ 16777215 ∷ 1000 ∷ 16777215 ∷ 1000 ∷ []) (counts_of d) refl refl
      (all_inside zeros (16777215 ∷ 1000 ∷ 16777215 ∷ 1000 ∷ 16777215 ∷ 1000 ∷ []) (counts_of d) refl refl b)

-- ---- the values of a road and its daily figure

module _ (v : List ℕ) (w : Within daily_bits v) where
  pub figures_there : length v ≡ length daily_bits
  figures_there = within_length daily_bits v w

  pub class_fits : (daily_of v).class < 4
  class_fits = within_at daily_bits v (length road_table) w (omega arith)

  pub dtv_fits : (daily_of v).dtv < 2 ^ 18
  dtv_fits = within_at daily_bits v (suc (length road_table)) w (omega arith)

  pub road_fits : (length road_table ≤ length v) × Fit (slot_bits_by road_table) 0 v
  road_fits =
      let e : take (length daily_bits) v ≡ v = take_all (length daily_bits) v (omega (arith, figures_there)) in
      let f = record_fit daily_bits v (subst⁻¹ (Within daily_bits) e w) in
      (omega (arith, figures_there), fit_wider road_table (bits_by daily_table) 0 v refl f)

-- ---- the two fields

pub inside_figured : (d : Daily) → length daily_table ≤ outside_by daily_table d → Figured d
inside_figured d h =
    let b = inside_at (least_by daily_table d) (most_by daily_table d) (values_by daily_table d) in
    ((b 0 (omega arith)).1, b 1 (omega arith))

-- ---- what is promised

road_named : (c : Course) (d : Daily) (s : Source) → outside_by road_table s < length road_table
    → daily_verdict c d s ≡ course_verdict c (Err (Field (number_at road_table (outside_by road_table s))))
unfolding daily_verdict
road_named c d s h = ap (course_verdict c) (sym (outside road_table s (unless_outside daily_table d (rest_verdict (counted c d s))) (outside_by road_table s) refl h))

figured_inside : (d : Daily) → Figured d → length daily_table ≤ outside_by daily_table d
figured_inside d f =
    let e = all_inside (least_by daily_table d) (most_by daily_table d) (d.class ∷ d.dtv ∷ []) refl refl b in omega arith
  where
    b : (i : ℕ) → i < 2 → (get_or (least_by daily_table d) i 0 ≤ get_or (d.class ∷ d.dtv ∷ []) i 0) × (get_or (d.class ∷ d.dtv ∷ []) i 0 ≤ get_or (most_by daily_table d) i 0)
    b zero l = (omega arith, f.0)
    b (suc zero) l = f.1
    b (suc (suc i)) l = absurd (omega arith)

pub same_verdict : (c : Course) (d : Daily) (s : Source) → Figured d → daily_verdict c d s ≡ source_verdict (counted c d s)
unfolding daily_verdict source_verdict
same_verdict c d s f =
    ap (course_verdict c)
    (ap (unless_outside road_table s) (sym (inside daily_table d (rest_verdict (counted c d s)) (outside_by daily_table d) refl (figured_inside d f)))
    ∙ road_first (counted c d s))

pub counts_allowed : (c : Course) (d : Daily) (s : Source) → Figured d → outside_by traffic_table (counted c d s) ≡ length traffic_table
counts_allowed c d s f =
    all_inside (least_by traffic_table s) (most_by traffic_table s) (counts_of d) refl refl (counts_most d f.0 10000000 (omega (arith, f.1.1)))

pub promises : Promises
promises = record { road_named = road_named; same_verdict = same_verdict; counts_allowed = counts_allowed }

-- ---- what else a verdict tells

-- an allowed road with its daily figure fits a record
pub daily_within : (c : Course) (d : Daily) (s : Source) → daily_verdict c d s ≡ Ok tt
    → Within daily_bits (daily_fields d s)
unfolding daily_verdict
daily_within c d s e =
    let v : Verdict = rest_verdict (counted c d s) in
    let a = (fit_course c (unless_outside road_table s (unless_outside daily_table d v)) e).1 in
    let b = past daily_table d v (past road_table s (unless_outside daily_table d v) a).1 in
    let f = inside_figured d (ltb-false (outside_by daily_table d) (length daily_table) b.0) in
    let w = within_front (bits_by road_table) (bits_by traffic_table) (values_by road_table s ++ counts_of d) (source_within (counted c d s) b.1) in
    within_append (bits_by road_table) (values_by road_table s) (bits_by daily_table) (values_by daily_table d) w (omega (arith, f.0), (omega (arith, f.1.1), tt))

-- it is refused 5, 6 or 7 and no other
pub daily_by : (c : Course) (d : Daily) (s : Source) → ByFields (daily_verdict c d s)
unfolding daily_verdict
daily_by c d s = course_by c _ (outside_by_lem road_table refl s _ (outside_by_lem daily_table refl d _ (rest_by (counted c d s))))
