-- Traffic by the daily figure (METHOD 4): the counts that a class of road and its vehicles a day stand for, by VBUS table 2, and which
-- of them are allowed.
use Rattle.std.specs.Prelude.{ℕ, suc, ◌*◌, ◌-◌, ◌≤◌, ◌<◌, ◌≡◌, List, [], ◌∷◌, ◌++◌, length, get_or, Err}
use Rattle.answer.specs.declared.Refusal.TheVariants.{Field}
use Rattle.course.specs.declared.Course.{Course}
use Rattle.road.specs.declared.Source.{Source}
use Rattle.road.specs.Results.{Verdict}
use Rattle.road.specs.Fields.{Row, row, road_table, traffic_table, source_of, values_by, bits_by, number_at}
use Rattle.road.specs.Judge.{outside_by, unless_outside, course_verdict, rest_verdict, source_verdict}
use Rattle.daily.specs.declared.Daily.{Daily}

-- ---- table 2

-- by day, in the evening and at night: M in thousandths of the vehicles a day, and p in tenths of a percent
abbrev pub table_two : List (List ℕ)
table_two =
    -- 0: federal motorways
    (62 ∷ 250 ∷ 42 ∷ 350 ∷ 14 ∷ 450 ∷ [])
    -- 1: federal roads
    ∷ (62 ∷ 200 ∷ 42 ∷ 200 ∷ 11 ∷ 200 ∷ [])
    -- 2: state and district roads, and roads between municipalities
    ∷ (62 ∷ 200 ∷ 42 ∷ 150 ∷ 8 ∷ 100 ∷ [])
    -- 3: municipal streets
    ∷ (62 ∷ 100 ∷ 42 ∷ 65 ∷ 11 ∷ 30 ∷ [])
    ∷ []

-- fields 14 to 19 of the source: M, in thousandths of a vehicle an hour, and p, by day, in the evening and at night
abbrev pub counts_by : ℕ → List ℕ → List ℕ
counts_by dtv r =
    dtv * get_or r 0 0 ∷ get_or r 1 0
    ∷ dtv * get_or r 2 0 ∷ get_or r 3 0
    ∷ dtv * get_or r 4 0 ∷ get_or r 5 0
    ∷ []

abbrev pub counts_of : Daily → List ℕ
counts_of d = counts_by d.dtv (get_or table_two d.class [])

-- the source on a course that a road with its daily figure stands for; what course and traffic s has is not looked at
abbrev pub counted : Course → Daily → Source → Source
counted c d s = source_of c (values_by road_table s ++ counts_of d)

-- ---- the two fields, which follow those of the road

abbrev pub last_class : ℕ
last_class = length table_two - 1

-- vehicles a day
abbrev pub busiest : ℕ
busiest = 160000

abbrev pub daily_table : List (Row Daily)
daily_table =
    -- number, bits, bytes, value, least, most
    row 14 2 1 (λ d. d.class) 0 last_class
    ∷ row 15 18 3 (λ d. d.dtv) 1 busiest
    ∷ []

-- with the fields of the road before them: the widths in a record, and the values
abbrev pub daily_bits : List ℕ
daily_bits = bits_by road_table ++ bits_by daily_table

abbrev pub daily_fields : Daily → Source → List ℕ
daily_fields d s = values_by road_table s ++ values_by daily_table d

-- and the way back
abbrev pub daily_of : List ℕ → Daily
daily_of v = record { class = get_or v (length road_table) 0; dtv = get_or v (suc (length road_table)) 0 }

-- ---- the verdict: the course and the fields of the road, then the class and the daily figure, then what is judged of the source that
-- they stand for

unfoldable pub daily_verdict : Course → Daily → Source → Verdict
daily_verdict c d s = course_verdict c (unless_outside road_table s (unless_outside daily_table d (rest_verdict (counted c d s))))

-- ---- what is promised

-- class and daily figure are allowed
abbrev pub Figured : Daily → Type 0
Figured d = (d.class ≤ last_class) × ((1 ≤ d.dtv) × (d.dtv ≤ busiest))

pub record Promises : Type 0 where
  -- on a course that is allowed, a field of the road that is not is named, whatever class and vehicles a day are
  pub road_named : (c : Course) (d : Daily) (s : Source) → outside_by road_table s < length road_table
      → daily_verdict c d s ≡ course_verdict c (Err (Field (number_at road_table (outside_by road_table s))))
  -- where these two are allowed, the road is judged as the source that they stand for
  pub same_verdict : (c : Course) (d : Daily) (s : Source) → Figured d → daily_verdict c d s ≡ source_verdict (counted c d s)
  -- whose counts are always allowed: refusal 5 names the class by 14 and the vehicles a day by 15, and no count
  pub counts_allowed : (c : Course) (d : Daily) (s : Source) → Figured d → outside_by traffic_table (counted c d s) ≡ length traffic_table
