-- `added` adds shares that are not loud, and tests their sums. Assumes nothing.
use native.Mathlib.Omega.{arith}
use Rattle.reach.proofs.added.Goals as goal

pub overflow_add-day : goal.overflow_add-day
overflow_add-day c = omega (arith, c.requires.0 0, c.requires.1 0)

pub overflow_add-evening : goal.overflow_add-evening
overflow_add-evening c = omega (arith, c.requires.0 1, c.requires.1 1)

pub overflow_add-night : goal.overflow_add-night
overflow_add-night c = omega (arith, c.requires.0 2, c.requires.1 2)
