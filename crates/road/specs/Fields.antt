-- The fields of a source, of a receiver and of a noise wall (METHOD 3 and 4), each once: its number, its bits in a record, its bytes in a
-- slot of the store, its value, and its limits. Records, slots and verdicts are made from these tables.
use Rattle.std.specs.Prelude.{ℕ, suc, ◌+◌, ◌*◌, ◌^◌, ◌<◌, Bool, cond, ◌&&◌, List, [], ◌∷◌, ◌++◌, map, get_or, replicate, length, ltb, eqb}
use Rattle.course.specs.declared.Piece.{Piece}
use Rattle.course.specs.declared.Ends.{Ends}
use Rattle.course.specs.declared.Course.{Course}
use Rattle.course.specs.declared.Course.TheVariants.{Uncut}
use Rattle.course.specs.Course.{length_of}
use Rattle.screen.specs.declared.Wall.{Wall}
use Rattle.screen.specs.Screen.{wall_of}
use Rattle.road.specs.declared.Traffic.{Traffic}
use Rattle.road.specs.declared.Source.{Source}
use Rattle.road.specs.declared.Receiver.{Receiver}
use Rattle.road.specs.Term.{period}
use Rattle.road.specs.Emission.{sign}
use Rattle.road.specs.Limits.{coordinate, longest, last_lanes, fastest, steepest, last_surface, last_reflection, last_walls, highest_wall, widest_spacing, most_vehicles, all_trucks, lowest_receiver, highest_receiver, highest_noise_wall}

pub record Row (A : Type 0) : Type 0 where
  -- what a refusal calls the field
  pub number : ℕ
  -- in a record
  pub bits : ℕ
  -- in a slot
  pub bytes : ℕ
  pub value : A → ℕ
  -- the limits of a few fields depend on a field before them
  pub least : A → ℕ
  pub most : A → ℕ

module _ {A : Type 0} where
  -- a row in the order above
  abbrev pub row_by : ℕ → ℕ → ℕ → (A → ℕ) → (A → ℕ) → (A → ℕ) → Row A
  row_by n b k v lo hi = record { number = n; bits = b; bytes = k; value = v; least = lo; most = hi }

  -- a row whose limits depend on nothing
  abbrev pub row : ℕ → ℕ → ℕ → (A → ℕ) → ℕ → ℕ → Row A
  row n b k v lo hi = row_by n b k v (λ a. lo) (λ a. hi)

-- ---- where a road runs: a piece by its middle and its length, or two ends

abbrev pub piece_table : List (Row Piece)
piece_table =
    -- number, bits, bytes, value, least, most
    row 2 24 3 (λ p. p.x) 0 coordinate
    ∷ row 3 24 3 (λ p. p.y) 0 coordinate
    ∷ row 4 17 3 (λ p. p.length) 1 longest
    ∷ []

abbrev pub ends_table : List (Row Ends)
ends_table =
    row 2 24 3 (λ e. e.x1) 0 coordinate
    ∷ row 3 24 3 (λ e. e.y1) 0 coordinate
    ∷ row 2 24 3 (λ e. e.x2) 0 coordinate
    ∷ row 3 24 3 (λ e. e.y2) 0 coordinate
    ∷ []

-- the length of two ends is held nowhere, and judged as that of a piece
abbrev pub length_table : List (Row Ends)
length_table = row 4 0 0 length_of 1 longest ∷ []

-- ---- the other fields

-- a gradient is 0 or more up, or 1 or more down with the sign: there is no minus zero
abbrev pub by_fall : ℕ → ℕ → Source → ℕ
by_fall up down s = cond (ltb s.gradient sign) up down

-- walls that are not there have neither height nor spacing
abbrev pub if_walls : ℕ → Source → ℕ
if_walls n s = cond (eqb s.walls 0) 0 n

-- what the road is like
abbrev pub road_table : List (Row Source)
road_table =
    row 5 1 1 (λ s. s.lanes) 0 last_lanes
    ∷ row 6 8 1 (λ s. s.car) 1 fastest
    ∷ row 7 8 1 (λ s. s.truck) 1 fastest
    ∷ row 8 4 1 (λ s. s.surface) 1 last_surface
    ∷ row_by 9 8 1 (λ s. s.gradient) (by_fall 0 (sign + 1)) (by_fall steepest (sign + steepest))
    ∷ row 10 3 1 (λ s. s.reflection) 0 last_reflection
    ∷ row 11 2 1 (λ s. s.walls) 0 last_walls
    ∷ row_by 12 12 2 (λ s. s.height) (if_walls 1) (if_walls highest_wall)
    ∷ row_by 13 14 2 (λ s. s.spacing) (if_walls 1) (if_walls widest_spacing)
    ∷ []

-- and its traffic by day, in the evening and at night
abbrev pub traffic_table : List (Row Source)
traffic_table =
    row 14 24 3 (λ s. (period s 0).m) 0 most_vehicles
    ∷ row 15 10 2 (λ s. (period s 0).p) 0 all_trucks
    ∷ row 16 24 3 (λ s. (period s 1).m) 0 most_vehicles
    ∷ row 17 10 2 (λ s. (period s 1).p) 0 all_trucks
    ∷ row 18 24 3 (λ s. (period s 2).m) 0 most_vehicles
    ∷ row 19 10 2 (λ s. (period s 2).p) 0 all_trucks
    ∷ []

-- all but the course
abbrev pub source_table : List (Row Source)
source_table = road_table ++ traffic_table

abbrev pub receiver_table : List (Row Receiver)
receiver_table =
    row 2 24 3 (λ r. r.x) 0 coordinate
    ∷ row 3 24 3 (λ r. r.y) 0 coordinate
    ∷ row 4 9 2 (λ r. r.height) lowest_receiver highest_receiver
    ∷ []

-- a wall has two ends: no x of the second is allowed where it would be the first
abbrev pub one_point : Wall → Bool
one_point w = eqb w.ends.x1 w.ends.x2 && eqb w.ends.y1 w.ends.y2

abbrev pub wall_table : List (Row Wall)
wall_table =
    row 2 24 3 (λ w. w.ends.x1) 0 coordinate
    ∷ row 3 24 3 (λ w. w.ends.y1) 0 coordinate
    ∷ row_by 4 24 3 (λ w. w.ends.x2) (λ w. cond (one_point w) (coordinate + 1) 0) (λ w. coordinate)
    ∷ row 5 24 3 (λ w. w.ends.y2) 0 coordinate
    ∷ row 6 11 2 (λ w. w.height) 1 highest_noise_wall
    ∷ []

-- ---- the way back: what has the values v, in the order of the tables

abbrev pub traffic_of : ℕ → ℕ → Traffic
traffic_of m p = record { m = m; p = p }

abbrev pub piece_of : List ℕ → Piece
piece_of v = record { x = get_or v 0 0; y = get_or v 1 0; length = get_or v 2 0 }

abbrev pub ends_of : List ℕ → Ends
ends_of v = record { x1 = get_or v 0 0; y1 = get_or v 1 0; x2 = get_or v 2 0; y2 = get_or v 3 0 }

-- on a course
abbrev pub source_of : Course → List ℕ → Source
source_of c v =
    record {
      course = c;
      lanes = get_or v 0 0;
      car = get_or v 1 0;
      truck = get_or v 2 0;
      surface = get_or v 3 0;
      gradient = get_or v 4 0;
      reflection = get_or v 5 0;
      walls = get_or v 6 0;
      height = get_or v 7 0;
      spacing = get_or v 8 0;
      traffic = traffic_of (get_or v 9 0) (get_or v 10 0) ∷ traffic_of (get_or v 11 0) (get_or v 12 0) ∷ traffic_of (get_or v 13 0) (get_or v 14 0) ∷ [];
    }

-- the road alone, without traffic
abbrev pub road_of : Course → List ℕ → Source
road_of c v = source_of c (map (λ (r : Row Source). r.value (source_of c v)) road_table)

abbrev pub receiver_of : List ℕ → Receiver
receiver_of v = record { x = get_or v 0 0; y = get_or v 1 0; height = get_or v 2 0 }

-- ---- the columns

module _ {A : Type 0} where
  abbrev pub values_by : List (Row A) → A → List ℕ
  values_by t a = map (λ (r : Row A). r.value a) t

  abbrev pub least_by : List (Row A) → A → List ℕ
  least_by t a = map (λ (r : Row A). r.least a) t

  abbrev pub most_by : List (Row A) → A → List ℕ
  most_by t a = map (λ (r : Row A). r.most a) t

  -- the widths in a record
  abbrev pub bits_by : List (Row A) → List ℕ
  bits_by t = map (λ (r : Row A). r.bits) t

  -- the widths in a slot
  abbrev pub slot_bits_by : List (Row A) → List ℕ
  slot_bits_by t = map (λ (r : Row A). 8 * r.bytes) t

  -- the number of row i
  abbrev pub number_at : List (Row A) → ℕ → ℕ
  number_at t i = get_or (map (λ (r : Row A). r.number) t) i 0

  -- ---- the table as the code has it, with the limits of a: number, bits, bytes, least, most

  abbrev pub columns : A → Row A → List ℕ
  columns a r = r.number ∷ r.bits ∷ r.bytes ∷ r.least a ∷ r.most a ∷ []

  abbrev pub rows_by : List (Row A) → A → List (List ℕ)
  rows_by t a = map (columns a) t

-- a road that rises, between walls: all its fields are 1, wherever it runs
abbrev pub plain : Source
plain = source_of (Uncut (piece_of [])) (replicate (length source_table) 1)

-- a wall with two ends
abbrev pub plain_wall : Wall
plain_wall = wall_of (0 ∷ 0 ∷ 1 ∷ [])

-- ---- which numbers the code can take for values

-- number k of v and those after it are below 2 ^ their widths; v may be longer
abbrev pub Fit : List ℕ → ℕ → List ℕ → Type 0
Fit [] k v = Unit
Fit (w ∷ ws) k v = (get_or v k 0 < 2 ^ w) × Fit ws (suc k) v
