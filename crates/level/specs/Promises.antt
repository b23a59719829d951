-- What is promised of the table, of energies and of levels (METHOD 5), for numbers of any size.
-- `of_levels` in proofs/Promises.antt is the proof of all of it.
use Rattle.std.specs.Prelude.{◌≡◌, ℕ, ◌+◌, ◌-◌, ◌*◌, ◌/◌, ◌^◌, ◌<◌, ◌≤◌, length, Some, None}
use Rattle.level.specs.Table.{table, Z, Nearest}
use Rattle.level.specs.Level.{energy_of, tens_below, energy_at, level_of, loudness_of}

pub record Promises : Type 0 where
  -- the table has one thousand entries, and each is the whole number nearest to 10^6 times ten to the power k/1000:
  -- the thousandth power of 2Z-1 is below, that of 2Z+1 above, 2^1000 times 10^(6000+k)
  pub thousand : length table ≡ 1000
  pub nearest : (k : ℕ) → k < 1000 → Nearest k (Z k)
  -- a level from zero on has the energy E; one below zero an entry of the table, divided by ten for each ten dB begun, down. Ten dB lower
  -- it is a tenth, down, and nothing from -60.01 dB on
  pub from_zero : (up down : ℕ) → down ≤ up → energy_at up down ≡ energy_of (up - down)
  pub below_zero : (up down : ℕ) → up < down → energy_at up down ≡ Z (up + 1000 * tens_below up down - down) / 10 ^ tens_below up down
  pub tenth : (up down : ℕ) → energy_at up (1000 + down) ≡ energy_at up down / 10
  pub far_below : (up down : ℕ) → up + 6000 < down → energy_at up down ≡ 0
  -- it never falls as the level rises, across zero too, and up to 90 dB it is at most 10^15
  pub never_falls : (up down more less : ℕ) → up + less ≤ more + down → energy_at up down ≤ energy_at more less
  pub within : (up down : ℕ) → up ≤ 9000 + down → energy_at up down ≤ 10 ^ 15
  -- LV(S), S at least 10^6: the greatest L with E(L) at most S
  pub at_most : (s : ℕ) → 1000000 ≤ s → energy_of (level_of s) ≤ s
  pub greatest : (s l : ℕ) → 1000000 ≤ s → energy_of l ≤ s → l ≤ level_of s
  -- below 10^6, and only there, there is no level
  pub quiet : (s : ℕ) → s < 1000000 → loudness_of s ≡ None
  pub quiet_only : (s : ℕ) → loudness_of s ≡ None → s < 1000000
  pub heard : (s : ℕ) → 1000000 ≤ s → loudness_of s ≡ Some (level_of s)
  -- E is strictly rising, LV is rising, and LV(E(L)) is L
  pub energy_rising : (l m : ℕ) → l < m → energy_of l < energy_of m
  pub level_rises : (s t : ℕ) → 1000000 ≤ s → s ≤ t → level_of s ≤ level_of t
  pub level_energy : (l : ℕ) → level_of (energy_of l) ≡ l
