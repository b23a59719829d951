-- `up` stays at or below the level of the sum, and stops where the next level's energy is above the sum. Assumes nothing.
-- a level that the sum has reached, and the next not, is its own
use mathlib.Core.Path.{◌≡◌}
use Prim.Native.Nat.{ℕ, ◌+◌, ◌<◌, ◌≤◌}
use native.Mathlib.Omega.{arith}
use Rattle.level.specs.Level.{energy_of, level_of}
use Rattle.level.proofs.Laws.{level_below, level_at_least}
use Rattle.level.proofs.up.Goals as goal

last : (s l e : ℕ) → 1000000 ≤ s → l ≤ level_of s → e ≡ energy_of (l + 1) → s < e → l ≡ level_of s
last s l e h b q a =
    let z : level_of s < l + 1 = level_below s (l + 1) h (omega arith) in
    omega arith

pub loop-level-init : goal.loop-level-init
loop-level-init c = c.requires.1

pub overflow_add-level : goal.overflow_add-level
overflow_add-level c = omega (arith, c.loop-level.invariant, c.requires.2)

pub energy-requires : goal.energy-requires
energy-requires c = (omega (arith, c.loop-level.invariant, c.requires.2))

pub overflow_add-level-in-loop-level : goal.overflow_add-level-in-loop-level
overflow_add-level-in-loop-level c = omega (arith, c.loop-level.invariant, c.requires.2)

pub loop-level-smaller : goal.loop-level-smaller
loop-level-smaller c =
    omega (arith, level_at_least c.args.sum (c.loop-level.level + 1) c.energy.result c.requires.0 c.energy.ensures (omega arith))

pub loop-level-preserved : goal.loop-level-preserved
loop-level-preserved c =
    level_at_least c.args.sum (c.loop-level.level + 1) c.energy.result c.requires.0 c.energy.ensures (omega arith)

pub returns : goal.returns
returns c =
    last c.args.sum c.loop-level.level c.energy.result c.requires.0 c.loop-level.invariant c.energy.ensures (omega arith)
