-- `meet` has looked at all walls. Assumes nothing.
use mathlib.Core.Path.{subst}
use Rattle.std.proofs.Common.{arith}
use Rattle.std.proofs.lemmas.Grind.{common_steps}
use Rattle.screen.specs.Screen.{AllOnPlan}
use Rattle.screen.proofs.Lists.{looked_all}
use Rattle.screen.proofs.meet.Goals as goal

pub returns : goal.returns
returns c = (grind (arith, common_steps, looked_all), subst AllOnPlan c.walls.view_is c.walls.invariant)
