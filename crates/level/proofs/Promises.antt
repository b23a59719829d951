-- The promises of specs/Promises.antt, all together. Assumes nothing.
use Rattle.std.specs.Prelude.{Some, None}
use mathlib.Core.Path.{◌≡◌, sym, ◌∙◌}
use Prim.Native.Nat.{ℕ, ◌<◌}
use native.Mathlib.Decide.{dec_lt}
use native.Mathlib.Omega.{arith}
use Rattle.level.specs.Level.{level_of, loudness_of}
use Rattle.level.specs.Promises.{Promises}
use Rattle.level.proofs.Rule.{table_length, rule}
use Rattle.level.proofs.Signs.{energy_from_zero, energy_below_zero, energy_tenth, energy_far_below, energy_never_falls, energy_within}
use Rattle.level.proofs.Laws.{level_reached, level_greatest, level_rises, level_energy, energy_rising, heard_quiet, heard_level}

some_level : (l : ℕ) → Some l ≡ None → ⊥
some_level l e = let z : ◌≡◌ {A = ℕ} 0 1 = cc in omega arith

quiet_only : (s : ℕ) → loudness_of s ≡ None → s < 1000000
quiet_only s e = go (dec_lt s 1000000)
  where
    go : Dec (s < 1000000) → s < 1000000
    go (yes h) = h
    go (no h) = absurd (some_level (level_of s) (sym (heard_level s (omega arith)) ∙ e))

pub of_levels : Promises
of_levels = record {
  thousand = table_length;
  nearest = rule;
  from_zero = energy_from_zero;
  below_zero = energy_below_zero;
  tenth = energy_tenth;
  far_below = energy_far_below;
  never_falls = energy_never_falls;
  within = energy_within;
  at_most = λ s h. (level_reached s h).has;
  greatest = level_greatest;
  quiet = heard_quiet;
  quiet_only = quiet_only;
  heard = heard_level;
  energy_rising = energy_rising;
  level_rises = level_rises;
  level_energy = level_energy;
}
