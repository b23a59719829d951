-- `level_of` is LV: a sum below 10^18 has a level below 12000, and so has the hundredth of any other that 64 bits hold.
-- Assumes nothing.
use mathlib.Core.Path.{◌≡◌, ap, ◌∙◌}
use Prim.Native.Nat.{ℕ, ◌+◌, ◌*◌, ◌/◌, ◌^◌, ◌<◌, ◌≤◌}
use native.Mathlib.Omega.{arith}
use Rattle.level.specs.Level.{energy_of, level_of}
use Rattle.level.proofs.Laws.{energy_decade, level_below, level_hundredth}
use Rattle.level.proofs.level_of.Goals as goal

low : (s : ℕ) → 1000000 ≤ s → s < 1000000000000000000 → level_of s < 12000
low s h l =
    let e : energy_of 12000 ≡ 1000000 * 10 ^ 12 = energy_decade 12 in
    level_below s 12000 h (omega arith)

high : (s : ℕ) → 1000000000000000000 ≤ s → s < 2 ^ 64 → level_of (s / 100) < 12000
high s h l = low (s / 100) (omega arith) (omega arith)

again : (s k : ℕ) → 1000000000000000000 ≤ s → k ≡ level_of (s / 100) → 2000 + k ≡ level_of s
again s k h e = ap (λ (n : ℕ). 2000 + n) e ∙ level_hundredth s (omega arith)

pub walk-requires : goal.walk-requires
walk-requires c =
    (c.requires, low c.args.energy c.requires (omega arith))

pub walk-requires-2 : goal.walk-requires-2
walk-requires-2 c =
    (omega arith, high c.args.energy (omega arith) c.ranges.energy.fits)

pub overflow_add-result : goal.overflow_add-result
overflow_add-result c =
    omega (arith, c.walk-2.ensures, high c.args.energy (omega arith) c.ranges.energy.fits)

pub returns : goal.returns
returns c = again c.args.energy c.walk-2.result (omega arith) c.walk-2.ensures
