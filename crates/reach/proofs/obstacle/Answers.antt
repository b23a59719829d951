-- `obstacle` is the larger of the two. Assumes nothing.
use mathlib.Core.Path.{ap, ◌∙◌}
use Prim.Native.Nat.{max}
use Rattle.road.specs.Reach.{obstacle_term}
use Rattle.reach.proofs.obstacle.Goals as goal

pub returns : goal.returns
unfolding obstacle_term
returns c = c.max.ensures ∙ ap (max c.args.screening) c.ground.ensures
