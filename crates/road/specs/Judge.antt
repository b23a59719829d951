-- Which fields are allowed (METHOD 4 and 9): the first that is not is refused by its number; then surface and speed; then D.
-- The fields, their limits and their numbers are the rows of Fields.antt.
use Rattle.std.specs.Prelude.{ℕ, Bool, cond, ◌&&◌, List, length, leb, ltb, Ok, Err}
use Rattle.layout.specs.Bounds.{first_outside}
use Rattle.answer.specs.declared.Refusal.TheVariants.{Field, SlowSurface, QuietTruck}
use Rattle.course.specs.declared.Course.{Course}
use Rattle.course.specs.declared.Course.TheVariants.{Uncut, Between}
use Rattle.screen.specs.declared.Wall.{Wall}
use Rattle.road.specs.declared.Source.{Source}
use Rattle.road.specs.declared.Receiver.{Receiver}
use Rattle.road.specs.Results.{Verdict}
use Rattle.road.specs.Emission.{car_speed, truck_speed, car_level, truck_level}
use Rattle.road.specs.Fields.{Row, values_by, least_by, most_by, number_at, piece_table, ends_table, length_table, source_table, receiver_table, wall_table}

-- the fields in order: of a source those after its course, of a receiver and of a wall from field 2 on
abbrev pub source_fields : Source → List ℕ
source_fields s = values_by source_table s

abbrev pub receiver_fields : Receiver → List ℕ
receiver_fields r = values_by receiver_table r

abbrev pub wall_fields : Wall → List ℕ
wall_fields w = values_by wall_table w

-- ---- the verdict

-- refused 5 with the number of the first field outside its limits, if there is one; else v
module _ {A : Type 0} where
  -- the row of that field, or how many rows there are
  abbrev pub outside_by : List (Row A) → A → ℕ
  outside_by t a = first_outside (least_by t a) (most_by t a) (values_by t a)

  abbrev pub unless_outside : List (Row A) → A → Verdict → Verdict
  unless_outside t a v = cond (ltb (outside_by t a) (length t)) (Err (Field (number_at t (outside_by t a)))) v

-- the surfaces 5 to 9 are for more than 60 km/h
abbrev pub slow_surface : Source → Bool
slow_surface s = leb 5 s.surface && leb (car_speed s.car) 60

-- D negative
abbrev pub quiet_truck : Source → Bool
quiet_truck s = ltb (truck_level (truck_speed s.truck)) (car_level (car_speed s.car))

-- the course, which comes first; of two ends the length comes after them
abbrev pub course_verdict : Course → Verdict → Verdict
course_verdict (Uncut p) v = unless_outside piece_table p v
course_verdict (Between e) v = unless_outside ends_table e (unless_outside length_table e v)

-- the fields after it
unfoldable pub rest_verdict : Source → Verdict
rest_verdict s =
    unless_outside source_table s
    (cond (slow_surface s) (Err SlowSurface)
    (cond (quiet_truck s) (Err QuietTruck)
    (Ok tt)))

unfoldable pub source_verdict : Source → Verdict
source_verdict s = course_verdict s.course (rest_verdict s)

unfoldable pub receiver_verdict : Receiver → Verdict
receiver_verdict r = unless_outside receiver_table r (Ok tt)

unfoldable pub wall_verdict : Wall → Verdict
wall_verdict w = unless_outside wall_table w (Ok tt)

-- the slot is field 1, and is judged first
abbrev pub slot_verdict : ℕ → ℕ → Verdict → Verdict
slot_verdict most slot v = cond (leb slot most) v (Err (Field 1))
