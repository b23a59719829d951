-- `up` stays at or below the level of the sum, and stops where the next level's energy is above the sum. Assumes nothing.
-- a level that the sum has reached, and the next not, is its own
use Prim.Native.Nat.{◌-◌, ◌≤◌}
use Rattle.level.specs.Level.{level_of}
use Rattle.level.proofs.up.Given as goal

abbrev pub invariant-loop-level : goal.invariant-loop-level
invariant-loop-level l = l.level ≤ level_of l.sum

abbrev pub decreases-loop-level : goal.decreases-loop-level
decreases-loop-level l = level_of l.sum - l.level
