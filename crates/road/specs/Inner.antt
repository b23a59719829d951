-- Values that only inner functions of this crate and of reach hand on: what a road sends out, and a share before it is told to the caller.
-- A reader of the promises can pass over this file.
use Rattle.std.specs.Prelude.{ℕ, ◌+◌, ◌-◌, ◌*◌, ◌≤◌, true, false, cond, ◌||◌, List, [], ◌∷◌, get_or, leb, eqb, Some, None, Ok, Err}
use Rattle.root.specs.Root.{root_of}
use Rattle.course.specs.declared.Piece.{Piece}
use Rattle.course.specs.Course.{whole_of}
use Rattle.level.specs.Level.{lv_of, energy_of}
use Rattle.screen.specs.declared.Wall.{Wall}
use Rattle.screen.specs.Screen.{taken_off}
use Rattle.road.specs.declared.Term.{Term}
use Rattle.road.specs.declared.Source.{Source}
use Rattle.road.specs.declared.Receiver.{Receiver}
use Rattle.road.specs.declared.Shares.{Shares}
use Rattle.road.specs.declared.Traffic.{Traffic}
use Rattle.road.specs.declared.Sent.{Sent}
use Rattle.road.specs.declared.Pace.{Pace}
use Rattle.road.specs.Term.{term, ◌⊕◌, period}
use Rattle.road.specs.Emission.{emission_level, traffic_term, surface_term, gradient_term, reflection_term, car_speed, truck_speed, truck_gain, car_level}
use Rattle.road.specs.declared.Bar.{Bar}
use Rattle.road.specs.declared.Bar.TheVariants.{Near, Far, Long, Loud, Walls}
use Rattle.road.specs.Results.{Voice, Part, Pair}
use Rattle.road.specs.Reach.{plan_square, space_square, ray_height, length_term, walls_term, distance_term, obstacle_term, screen_between, weather_term, weather_of, energy_share, too_loud, unless_loud}

-- what speed gives: one car's level, and how much more energy than the car's a truck has, of which p takes its part
abbrev pub pace_of : Source → Pace
pace_of s = record {
  car = car_level (car_speed s.car);
  gain = energy_of (truck_gain (car_speed s.car) (truck_speed s.truck)) - 1000000;
}

abbrev pub speed_by : Pace → ℕ → Term
speed_by pace p = term (pace.car + lv_of (1000000000 + pace.gain * p)) (3730 + lv_of (100000 + 823 * p) + 4000)

-- the terms that are the same in every period, at every point and for every piece of the road
abbrev pub steady_term : Source → Term
steady_term s =
    surface_term s.surface (car_speed s.car) ⊕ gradient_term s.gradient ⊕ reflection_term s.reflection
    ⊕ walls_term s.walls s.height s.spacing

abbrev pub silent : Voice
silent = None

abbrev pub voice_by : ℕ → Pace → Term → Traffic → Voice
voice_by lanes pace steady t =
    cond (eqb t.m 0) silent (Some (traffic_term lanes t ⊕ speed_by pace t.p ⊕ steady))

-- what a metre of the source sends out in the period i
unfoldable pub voice_of : Source → ℕ → Voice
voice_of s i =
    cond (eqb (period s i).m 0) silent (Some (emission_level s i ⊕ walls_term s.walls s.height s.spacing))

unfoldable pub voices_of : Source → List Voice
voices_of s = voice_of s 0 ∷ voice_of s 1 ∷ voice_of s 2 ∷ []

-- that, the road as one piece, and what its length adds
abbrev pub sent_of : Source → Sent
sent_of s = record { voices = voices_of s; whole = whole_of s.course; length = length_term (whole_of s.course).length }

-- the share of a voice by a way
unfoldable pub voiced_part : Voice → Term → Part
voiced_part None t = Ok 0
voiced_part (Some l) t = cond (too_loud (l ⊕ t)) (Err Loud) (Ok (energy_share (l ⊕ t)))

-- the level of a voice; 0 dB where there is none
abbrev pub level_in : Voice → Term
level_in None = term 0 0
level_in (Some l) = l

-- the voices are levels that can be added up
pub record Modest (v : Voice) : Type 0 where
  pub up : (level_in v).up ≤ 100000
  pub down : (level_in v).down ≤ 100000

pub record Moderate (vs : List Voice) : Type 0 where
  pub day : Modest (get_or vs 0 silent)
  pub evening : Modest (get_or vs 1 silent)
  pub night : Modest (get_or vs 2 silent)

-- what is added on the way in the period i: the length's term l, distance, ground or the screening d, weather
abbrev pub way_of : Term → ℕ → ℕ → ℕ → ℕ → ℕ → Term
way_of l q0 q h d i = l ⊕ (distance_term q (root_of q) ⊕ obstacle_term h (root_of q) d) ⊕ weather_term (weather_of i) h (root_of q0)

abbrev pub part_in : List Voice → Term → ℕ → ℕ → ℕ → ℕ → ℕ → Part
part_in vs l q0 q h d i = voiced_part (get_or vs i silent) (way_of l q0 q h d i)

-- three shares, or the first bar among them
abbrev pub pair_by : Part → Part → Part → Pair
pair_by (Ok day) (Ok evening) (Ok night) = Ok (record { day = day; evening = evening; night = night })
pair_by (Ok day) (Ok evening) (Err b) = Err b
pair_by (Ok day) (Err b) night = Err b
pair_by (Err b) evening night = Err b

unfoldable pub hear_of : List Voice → Term → ℕ → ℕ → ℕ → ℕ → Pair
hear_of vs l q0 q h d = pair_by (part_in vs l q0 q h d 0) (part_in vs l q0 q h d 1) (part_in vs l q0 q h d 2)

-- the share of the piece p in the period i, among the walls ws, by the voices
abbrev pub voiced_share : Voice → Term → ℕ
voiced_share None t = 0
voiced_share (Some l) t = energy_share (l ⊕ t)

abbrev pub way_for : List Wall → Receiver → Piece → ℕ → Term
way_for ws r p i = way_of (length_term p.length) (plan_square p r) (space_square p r) (ray_height r) (taken_off (screen_between ws p r)) i

unfoldable pub share_by : List Wall → List Voice → Receiver → Piece → ℕ → ℕ
share_by ws vs r p i = voiced_share (get_or vs i silent) (way_for ws r p i)

-- ---- what two parts of a road make together

abbrev pub added_shares : Shares → Shares → Shares
added_shares x y = record { day = x.day + y.day; evening = x.evening + y.evening; night = x.night + y.night }

-- the order of the bars of a pair: those of a place, 14, 13
abbrev pub rank : Bar → ℕ
rank Near = 0
rank Far = 0
rank Long = 0
rank Walls = 1
rank Loud = 2

-- of two, the first part's where both are of one rank
abbrev pub earlier : Bar → Bar → Bar
earlier a b = cond (leb (rank a) (rank b)) a b

unfoldable pub joined : Pair → Pair → Pair
joined (Err a) (Err b) = Err (earlier a b)
joined (Err a) (Ok y) = Err a
joined (Ok x) (Err b) = Err b
joined (Ok x) (Ok y) = unless_loud (added_shares x y)
