-- `around` adds up three products. Assumes nothing.
use native.Mathlib.Omega.{arith}
use Rattle.screen.specs.Plan.{around}
use Rattle.screen.proofs.plan.around.Goals as goal

pub returns : goal.returns
unfolding around
returns c = omega arith
