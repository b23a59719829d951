-- `down` ends: the energy of level 0 is above no sum that has a level. Assumes nothing.
-- a level whose energy is above the sum is above the sum's own
use mathlib.Core.Path.{◌≡◌}
use Prim.Native.Nat.{ℕ, ◌<◌, ◌≤◌}
use native.Mathlib.Omega.{arith}
use Rattle.level.specs.Level.{energy_of, level_of}
use Rattle.level.proofs.Laws.{level_below, level_at_least}
use Rattle.level.proofs.down.Goals as goal

above : (s l e : ℕ) → 1000000 ≤ s → e ≡ energy_of l → s < e → level_of s < l
above s l e h q a = level_below s l h (omega arith)

pub loop-level-init : goal.loop-level-init
loop-level-init c = c.requires.1

pub energy-requires : goal.energy-requires
energy-requires c = (c.loop-level.invariant)

pub overflow_sub-level : goal.overflow_sub-level
overflow_sub-level c =
    omega (arith, above c.args.sum c.loop-level.level c.energy.result c.requires.0 c.energy.ensures (omega arith))

pub loop-level-smaller : goal.loop-level-smaller
loop-level-smaller c =
    omega (arith, above c.args.sum c.loop-level.level c.energy.result c.requires.0 c.energy.ensures (omega arith))

pub loop-level-preserved : goal.loop-level-preserved
loop-level-preserved c = omega arith

pub returns : goal.returns
returns c =
    level_at_least c.args.sum c.loop-level.level c.energy.result c.requires.0 c.energy.ensures (omega arith)
