-- The two indices of a point from its sums of energy by day, in the evening and at night (VBUS equation 2, METHOD 8).
-- `loudness_of` is what is heard of a sum: quiet, or a level in hundredths of a dB.
use Rattle.std.specs.Prelude.{ℕ, ◌+◌, ◌*◌, ◌/◌, Some, None, Option}
use Rattle.level.specs.Level.{energy_of, loudness_of}
use Rattle.level.specs.Level.{Loudness}

-- an index in tenths of a dB, or none where it is quiet
abbrev pub Index : Type 0
Index = Option ℕ

-- the level that is heard, or 0
abbrev pub level_in : Loudness → ℕ
level_in None = 0
level_in (Some l) = l

-- a level in tenths of a dB, half a tenth up
abbrev pub tenths_of : Loudness → Index
tenths_of None = None
tenths_of (Some l) = Some ((l + 5) / 10)

-- the energy of a level with an addition to it; a quiet period brings nothing
abbrev pub lift : ℕ → Loudness → ℕ
lift n None = 0
lift n (Some l) = energy_of (l + n)

abbrev pub lifted_of : ℕ → ℕ → ℕ
lifted_of n s = lift n (loudness_of s)

-- L_Night
abbrev pub lnight_of : ℕ → Index
lnight_of night = tenths_of (loudness_of night)

-- equation 2: energies, and not levels, are put together, 12 hours to 4 to 8
abbrev pub day_evening_night : ℕ → ℕ → ℕ → ℕ
day_evening_night day evening night = (3 * lifted_of 0 day + lifted_of 500 evening + 2 * lifted_of 1000 night) / 6

-- L_DEN
abbrev pub lden_of : ℕ → ℕ → ℕ → Index
lden_of day evening night = tenths_of (loudness_of (day_evening_night day evening night))
