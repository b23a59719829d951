-- What allowed fields tell: the bounds of each, that they fit a record and a slot, and that a truck is no quieter than a car.
-- Assumes nothing.
use Rattle.std.specs.Prelude.{Ok, Err}
use mathlib.Core.Path.{◌≡◌, refl, subst}
use mathlib.Core.Bool.{Bool, true, false, cond}
use mathlib.Core.List.{List}
use Prim.Native.Nat.{ℕ, ◌≤◌, ◌<◌}
use native.Mathlib.Omega.{arith}
use lib.ListN.{length, get_or, length-map}
use lib.Dec.{ltb, eqb}
use borrow.Author.Tests.{ltb-false, ne_eqb}
use Rattle.layout.specs.Layout.{Within}
use Rattle.layout.specs.Bounds.{under}
use Rattle.layout.proofs.Bounds.{inside_at, inside_within, none_outside}
use Rattle.answer.specs.declared.Refusal.{Refusal}
use Rattle.answer.specs.declared.Refusal.TheVariants.{Field, SlowSurface, QuietTruck}
use Rattle.course.specs.declared.Piece.{Piece}
use Rattle.course.specs.declared.Ends.{Ends}
use Rattle.course.specs.declared.Course.{Course}
use Rattle.course.specs.declared.Course.TheVariants.{Uncut, Between}
use Rattle.course.specs.Course.{length_of, one_piece, whole_of, Mapped, Drawn}
use Rattle.screen.specs.declared.Wall.{Wall}
use Rattle.screen.specs.Plan.{WallOnPlan}
use Rattle.road.specs.declared.Source.{Source}
use Rattle.road.specs.declared.Receiver.{Receiver}
use Rattle.road.specs.Results.{Verdict}
use Rattle.road.specs.Term.{period}
use Rattle.road.specs.Emission.{car_speed, truck_speed, car_level, truck_level}
use Rattle.road.specs.Limits.{coordinate, longest, last_surface, last_reflection, most_vehicles, all_trucks, lowest_receiver, highest_receiver}
use Rattle.road.specs.Emission.{sign}
use Rattle.road.specs.Fields.{Row, piece_table, ends_table, length_table, source_table, receiver_table, wall_table, values_by, least_by, most_by, bits_by, slot_bits_by, number_at}
use Rattle.road.proofs.Rows.{wider}
use Rattle.road.specs.Judge.{outside_by, unless_outside, slow_surface, quiet_truck, course_verdict, rest_verdict, source_verdict, receiver_verdict, wall_verdict}

-- a verdict that allows has passed each test on its way
pub passed : (b : Bool) (r : Refusal) (v : Verdict) → cond b (Err r) v ≡ Ok tt → (b ≡ false) × (v ≡ Ok tt)
passed true r v e = absurd (let z : ◌≡◌ {A = ℕ} 0 1 = cc in omega arith)
passed false r v e = (refl, e)

module _ {A : Type 0} (t : List (Row A)) (a : A) (v : Verdict) (e : unless_outside t a v ≡ Ok tt) where
  pub past : (ltb (outside_by t a) (length t) ≡ false) × (v ≡ Ok tt)
  past = passed (ltb (outside_by t a) (length t)) (Field (number_at t (outside_by t a))) v e

  -- each field has its bounds
  bounded : (i : ℕ) → i < length t → (get_or (least_by t a) i 0 ≤ get_or (values_by t a) i 0) × (get_or (values_by t a) i 0 ≤ get_or (most_by t a) i 0)
  bounded i h =
      let n : length t ≤ outside_by t a = ltb-false _ _ past.0 in
      inside_at (least_by t a) (most_by t a) (values_by t a) i (omega arith)

  -- and fits the widths that its greatest value fits
  fits : (ws : List ℕ) → under ws (most_by t a) ≡ true → length t ≡ length ws → Within ws (values_by t a)
  fits ws u l =
      let n : length t ≤ outside_by t a = ltb-false _ _ past.0 in
      let k = length-map t (λ (r : Row A). r.value a) in
      inside_within ws (least_by t a) (most_by t a) (values_by t a) u (omega arith)
      (none_outside (least_by t a) (most_by t a) (values_by t a) (omega arith))

-- ---- where a road runs

pub record FitPiece (p : Piece) : Type 0 where
  pub x : p.x ≤ coordinate
  pub y : p.y ≤ coordinate
  pub some : 1 ≤ p.length
  pub short : p.length ≤ longest

pub record FitEnds (e : Ends) : Type 0 where
  pub mapped : Mapped e
  pub some : 1 ≤ length_of e
  pub short : length_of e ≤ longest

abbrev pub FitCourse : Course → Type 0
FitCourse (Uncut p) = FitPiece p
FitCourse (Between e) = FitEnds e

-- four coordinates of which none is outside have 24 bits
pub ends_mapped : (e : Ends) → length ends_table ≤ outside_by ends_table e → Mapped e
ends_mapped e n =
    let b : (i : ℕ) → i < 4 → get_or (values_by ends_table e) i 0 ≤ get_or (most_by ends_table e) i 0 =
    λ i h. (inside_at (least_by ends_table e) (most_by ends_table e) (values_by ends_table e) i (omega arith)).1 in
    record { x1 = omega (arith, b 0 (omega arith)); y1 = omega (arith, b 1 (omega arith)); x2 = omega (arith, b 2 (omega arith)); y2 = omega (arith, b 3 (omega arith)) }

pub fit_course : (c : Course) (v : Verdict) → course_verdict c v ≡ Ok tt → FitCourse c × (v ≡ Ok tt)
fit_course (Uncut p) v e =
    let b = bounded piece_table p v e in
    (record { x = (b 0 (omega arith)).1; y = (b 1 (omega arith)).1; some = (b 2 (omega arith)).0; short = (b 2 (omega arith)).1 }, (past piece_table p v e).1)
fit_course (Between e) v h =
    let m = past ends_table e (unless_outside length_table e v) h in
    let b = bounded length_table e v m.1 0 (omega arith) in
    (record { mapped = ends_mapped e (ltb-false _ _ m.0); some = b.0; short = b.1 }, (past length_table e v m.1).1)

pub drawn : (c : Course) → FitCourse c → Drawn c
drawn (Uncut p) f = tt
drawn (Between e) f = f.mapped

-- two ends as one piece
pub fit_one : (e : Ends) → FitEnds e → FitPiece (one_piece e)
unfolding one_piece
fit_one e f = record { x = omega (arith, f.mapped.x1, f.mapped.x2); y = omega (arith, f.mapped.y1, f.mapped.y2); some = f.some; short = f.short }

pub fit_whole : (c : Course) → FitCourse c → FitPiece (whole_of c)
fit_whole (Uncut p) f = f
fit_whole (Between e) f = fit_one e f

-- each form of a course fits a record and a slot
pub piece_within : (p : Piece) (v : Verdict) → unless_outside piece_table p v ≡ Ok tt → Within (bits_by piece_table) (values_by piece_table p)
piece_within p v e = fits piece_table p v e (bits_by piece_table) refl refl

pub ends_within : (e : Ends) (v : Verdict) → unless_outside ends_table e v ≡ Ok tt → Within (bits_by ends_table) (values_by ends_table e)
ends_within e v h = fits ends_table e v h (bits_by ends_table) refl refl

-- ---- the whole source

pub record FitTraffic (m p : ℕ) : Type 0 where
  pub few : m ≤ most_vehicles
  pub part : p ≤ all_trucks

pub record FitSource (s : Source) : Type 0 where
  pub course : FitCourse s.course
  pub paved : 1 ≤ s.surface
  pub known : s.surface ≤ last_surface
  pub coded : s.reflection ≤ last_reflection
  pub spaced : (s.walls ≡ 0 → ⊥) → 1 ≤ s.spacing
  pub day : FitTraffic (period s 0).m (period s 0).p
  pub evening : FitTraffic (period s 1).m (period s 1).p
  pub night : FitTraffic (period s 2).m (period s 2).p
  pub louder : car_level (car_speed s.car) ≤ truck_level (truck_speed s.truck)

-- the verdict after the course
pub rest_allowed : (s : Source) → source_verdict s ≡ Ok tt → FitCourse s.course × (rest_verdict s ≡ Ok tt)
unfolding source_verdict
rest_allowed s e = fit_course s.course (rest_verdict s) e

pub fit_source : (s : Source) → source_verdict s ≡ Ok tt → FitSource s
unfolding rest_verdict
fit_source s a =
    let e = (rest_allowed s a).1 in
    let v : Verdict = cond (slow_surface s) (Err SlowSurface) (cond (quiet_truck s) (Err QuietTruck) (Ok tt)) in
    let b = bounded source_table s v e in
    let q = passed (slow_surface s) SlowSurface (cond (quiet_truck s) (Err QuietTruck) (Ok tt)) (past source_table s v e).1 in
    record {
      course = (rest_allowed s a).0;
      paved = (b 3 (omega arith)).0;
      known = (b 3 (omega arith)).1;
      coded = (b 5 (omega arith)).1;
      spaced = λ n. subst (λ (t : Bool). cond t 0 1 ≤ s.spacing) (ne_eqb s.walls 0 n) (b 8 (omega arith)).0;
      day = record { few = (b 9 (omega arith)).1; part = (b 10 (omega arith)).1 };
      evening = record { few = (b 11 (omega arith)).1; part = (b 12 (omega arith)).1 };
      night = record { few = (b 13 (omega arith)).1; part = (b 14 (omega arith)).1 };
      louder = ltb-false _ _ (passed (quiet_truck s) QuietTruck (Ok tt) q.1).0;
    }

-- the greatest values fit, whatever the gradient's sign and whether or not there are walls
most_under : (s : Source) → under (bits_by source_table) (most_by source_table s) ≡ true
most_under s = go (ltb s.gradient sign) refl (eqb s.walls 0) refl
  where
    go : (a : Bool) → ltb s.gradient sign ≡ a → (b : Bool) → eqb s.walls 0 ≡ b → under (bits_by source_table) (most_by source_table s) ≡ true
    go true e true f = rw (e, f) refl
    go true e false f = rw (e, f) refl
    go false e true f = rw (e, f) refl
    go false e false f = rw (e, f) refl

pub source_within : (s : Source) → rest_verdict s ≡ Ok tt → Within (bits_by source_table) (values_by source_table s)
unfolding rest_verdict
source_within s e =
    fits source_table s (cond (slow_surface s) (Err SlowSurface) (cond (quiet_truck s) (Err QuietTruck) (Ok tt))) e
    (bits_by source_table) (most_under s) refl

pub source_in_slot : (s : Source) → rest_verdict s ≡ Ok tt → Within (slot_bits_by source_table) (values_by source_table s)
source_in_slot s e = wider source_table (values_by source_table s) refl (source_within s e)

pub record FitReceiver (r : Receiver) : Type 0 where
  pub x : r.x ≤ coordinate
  pub y : r.y ≤ coordinate
  pub low : lowest_receiver ≤ r.height
  pub high : r.height ≤ highest_receiver

pub fit_receiver : (r : Receiver) → receiver_verdict r ≡ Ok tt → FitReceiver r
unfolding receiver_verdict
fit_receiver r e =
    let b = bounded receiver_table r (Ok tt) e in
    record { x = (b 0 (omega arith)).1; y = (b 1 (omega arith)).1; low = (b 2 (omega arith)).0; high = (b 2 (omega arith)).1 }

pub receiver_within : (r : Receiver) → receiver_verdict r ≡ Ok tt → Within (bits_by receiver_table) (values_by receiver_table r)
unfolding receiver_verdict
receiver_within r e = fits receiver_table r (Ok tt) e (bits_by receiver_table) refl refl

pub receiver_in_slot : (r : Receiver) → receiver_verdict r ≡ Ok tt → Within (slot_bits_by receiver_table) (values_by receiver_table r)
receiver_in_slot r e = wider receiver_table (values_by receiver_table r) refl (receiver_within r e)

-- a wall stands on the plan
pub fit_wall : (w : Wall) → wall_verdict w ≡ Ok tt → WallOnPlan w
unfolding wall_verdict
fit_wall w e =
    let b = bounded wall_table w (Ok tt) e in
    record {
      from = record { x = omega (arith, (b 0 (omega arith)).1); y = omega (arith, (b 1 (omega arith)).1) };
      to = record { x = omega (arith, (b 2 (omega arith)).1); y = omega (arith, (b 3 (omega arith)).1) };
      low = (b 4 (omega arith)).1;
    }

pub wall_within : (w : Wall) → wall_verdict w ≡ Ok tt → Within (bits_by wall_table) (values_by wall_table w)
unfolding wall_verdict
wall_within w e = fits wall_table w (Ok tt) e (bits_by wall_table) refl refl

pub wall_in_slot : (w : Wall) → wall_verdict w ≡ Ok tt → Within (slot_bits_by wall_table) (values_by wall_table w)
wall_in_slot w e = wider wall_table (values_by wall_table w) refl (wall_within w e)
