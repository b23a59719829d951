-- The limits of the fields (METHOD 4), each named once: a limit is changed here and in fields/src/limits.rt.
-- Lengths are in cm. The codes of surfaces and of reflections go as far as the tables of Emission.antt.
use Rattle.std.specs.Prelude.{ℕ, ◌-◌, length}
use Rattle.road.specs.Emission.{surface_table, reflection_table}

-- the largest number of 24 bits
abbrev pub coordinate : ℕ
coordinate = 16777215

abbrev pub longest : ℕ
longest = 100000

-- 0: one lane a direction; 1: several
abbrev pub last_lanes : ℕ
last_lanes = 1

-- of cars and of trucks, as they are written: they are brought into range before they are used
abbrev pub fastest : ℕ
fastest = 250

-- in tenths of a percent
abbrev pub steepest : ℕ
steepest = 120

abbrev pub last_surface : ℕ
last_surface = length surface_table

abbrev pub last_reflection : ℕ
last_reflection = length reflection_table - 1

-- 0: none; 1: reflecting; 2: absorbing; 3: highly absorbing
abbrev pub last_walls : ℕ
last_walls = 3

abbrev pub highest_wall : ℕ
highest_wall = 4000

-- the largest number of 14 bits
abbrev pub widest_spacing : ℕ
widest_spacing = 16383

-- M, in thousandths of a vehicle an hour
abbrev pub most_vehicles : ℕ
most_vehicles = 10000000

-- p, in tenths of a percent: all of them are trucks
abbrev pub all_trucks : ℕ
all_trucks = 1000

abbrev pub lowest_receiver : ℕ
lowest_receiver = 380

abbrev pub highest_receiver : ℕ
highest_receiver = 420

-- of noise walls, from 1 on
abbrev pub highest_noise_wall : ℕ
highest_noise_wall = 2000
