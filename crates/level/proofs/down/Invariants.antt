-- `down` ends: the energy of level 0 is above no sum that has a level. Assumes nothing.
-- a level whose energy is above the sum is above the sum's own
use Prim.Native.Nat.{◌<◌}
use Rattle.level.proofs.down.Given as goal

abbrev pub invariant-loop-level : goal.invariant-loop-level
invariant-loop-level l = l.level < 13000

abbrev pub decreases-loop-level : goal.decreases-loop-level
decreases-loop-level l = l.level
