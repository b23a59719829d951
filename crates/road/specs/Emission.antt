-- What a road gives out (VBUS section 3.5, METHOD 6): its emission level and each of its five terms, in the paper's order.
-- `lv_of` and `energy_of` are lv and E; speeds are brought into range before they are used.
use Rattle.std.specs.Prelude.{ℕ, ◌+◌, ◌-◌, ◌*◌, ◌/◌, ◌%◌, min, max, cond, List, [], ◌∷◌, get_or, leb, ltb, eqb}
use Rattle.level.specs.Level.{lv_of, energy_of}
use Rattle.road.specs.declared.Term.{Term}
use Rattle.road.specs.declared.Traffic.{Traffic}
use Rattle.road.specs.declared.Source.{Source}
use Rattle.road.specs.Term.{term, adds, takes, ◌⊕◌, period}

-- ---- section 3.5.1, equation 8: the level at 25 m

-- M times (1 + 0.082 p), in ten-millionths of a vehicle an hour
abbrev pub vehicles : Traffic → ℕ
vehicles t = t.m * (10000 + 82 * t.p)

-- on a road of several lanes each of the two outer ones has half of the traffic
unfoldable pub traffic_term : ℕ → Traffic → Term
traffic_term lanes t =
    cond (eqb lanes 1)
    (term (3730 + lv_of (5 * vehicles t)) 8000)
    (term (3730 + lv_of (vehicles t)) 7000)

-- ---- section 3.5.2, equation 9: speed

abbrev pub car_speed : ℕ → ℕ
car_speed v = max 30 (min 130 v)

abbrev pub truck_speed : ℕ → ℕ
truck_speed u = max 30 (min 80 u)

-- one car an hour, one truck an hour, at a speed in range
unfoldable pub car_level : ℕ → ℕ
car_level v = 2770 + lv_of (1000000 + 8 * (v * v * v)) - 6000

unfoldable pub truck_level : ℕ → ℕ
truck_level u = 2310 + lv_of (u * u * u * u * u) / 4

-- D, the truck's level above the car's
abbrev pub truck_gain : ℕ → ℕ → ℕ
truck_gain v u = truck_level u - car_level v

unfoldable pub speed_term : ℕ → ℕ → ℕ → Term
speed_term v u p =
    term
    (car_level v + lv_of (1000000000 + (energy_of (truck_gain v u) - 1000000) * p))
    (3730 + lv_of (100000 + 823 * p) + 4000)

-- ---- section 3.5.3, table 3: surface

-- hundredths of a dB for speeds below 40, from 40 on, from 50 on; the last five surfaces are for more than 60 km/h only
abbrev pub surface_table : List (List ℕ)
surface_table =
    (0 ∷ 0 ∷ 0 ∷ []) ∷ (100 ∷ 150 ∷ 200 ∷ []) ∷ (200 ∷ 250 ∷ 300 ∷ []) ∷ (300 ∷ 450 ∷ 600 ∷ [])
    ∷ (0 ∷ 0 ∷ 100 ∷ []) ∷ (0 ∷ 0 ∷ 200 ∷ []) ∷ (0 ∷ 0 ∷ 200 ∷ []) ∷ (0 ∷ 0 ∷ 400 ∷ []) ∷ (0 ∷ 0 ∷ 500 ∷ []) ∷ []

abbrev pub surface_column : ℕ → ℕ
surface_column v = cond (ltb v 40) 0 (cond (ltb v 50) 1 2)

abbrev pub surface_entry : ℕ → ℕ → ℕ
surface_entry surface v = get_or (get_or surface_table (surface - 1) []) (surface_column v) 0

-- surfaces 1 to 5 add, 6 to 9 take off
unfoldable pub surface_term : ℕ → ℕ → Term
surface_term surface v = cond (leb surface 5) (adds (surface_entry surface v)) (takes (surface_entry surface v))

-- ---- section 3.5.4: gradient

-- of a road that falls: the field's top bit
abbrev pub sign : ℕ
sign = 128

-- |g| in tenths of a percent
abbrev pub steepness : ℕ → ℕ
steepness g = g % sign

unfoldable pub gradient_term : ℕ → Term
gradient_term g = adds (cond (ltb 50 (steepness g)) (6 * steepness g - 300) 0)

-- ---- section 3.11, table 7: reflection

-- what is taken off, by the code
abbrev pub reflection_table : List ℕ
reflection_table = 0 ∷ 100 ∷ 200 ∷ 400 ∷ 800 ∷ []

unfoldable pub reflection_term : ℕ → Term
reflection_term code = takes (get_or reflection_table code 0)

-- ---- section 3.5, equation 7: the emission level in the period i

abbrev pub emission_level : Source → ℕ → Term
emission_level s i =
    traffic_term s.lanes (period s i)
    ⊕ speed_term (car_speed s.car) (truck_speed s.truck) (period s i).p
    ⊕ surface_term s.surface (car_speed s.car)
    ⊕ gradient_term s.gradient
    ⊕ reflection_term s.reflection
