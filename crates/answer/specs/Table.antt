-- METHOD 9's table of numbers: the number and the place of each refusal. Done is 0 at place 0.
-- Every promise that speaks of a number goes through these definitions.
use Rattle.std.specs.Prelude.{ℕ, ◌≤◌}
use Rattle.std.proofs.Math.Option.{Option, none, some}
use Rattle.answer.specs.declared.Refusal.{Refusal}
use Rattle.answer.specs.declared.Refusal.TheVariants.{Damaged, CutShort, UnknownKind, Leftover, Field, SlowSurface, QuietTruck, Taken, Vacant, TooNear, TooFar, TooLong, TooLoud, TwoWalls}

abbrev pub number_of : Refusal → ℕ
number_of Damaged = 1
number_of CutShort = 2
number_of UnknownKind = 3
number_of Leftover = 4
number_of (Field f) = 5
number_of SlowSurface = 6
number_of QuietTruck = 7
number_of Taken = 8
number_of Vacant = 9
number_of (TooNear s) = 10
number_of (TooFar s) = 11
number_of (TooLong s) = 12
number_of (TooLoud s) = 13
number_of (TwoWalls s) = 14

abbrev pub place_of : Refusal → ℕ
place_of Damaged = 0
place_of CutShort = 0
place_of UnknownKind = 0
place_of Leftover = 0
place_of (Field f) = f
place_of SlowSurface = 0
place_of QuietTruck = 0
place_of Taken = 0
place_of Vacant = 0
place_of (TooNear s) = s
place_of (TooFar s) = s
place_of (TooLong s) = s
place_of (TooLoud s) = s
place_of (TwoWalls s) = s

-- ---- of an answer: each kind of answer says which refusal it holds, if any

-- what is done or told is 0 at place 0
abbrev pub number_by : Option Refusal → ℕ
number_by none = 0
number_by (some why) = number_of why

abbrev pub place_by : Option Refusal → ℕ
place_by none = 0
place_by (some why) = place_of why

-- the rows a to b
abbrev pub Between : ℕ → ℕ → ℕ → Type 0
Between a b n = (a ≤ n) × (n ≤ b)
