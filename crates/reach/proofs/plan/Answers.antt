-- `plan` is the squared distance of the middle and the point. Assumes nothing.
use Rattle.road.specs.Reach.{plan_square}
use Rattle.reach.proofs.plan.Goals as goal

pub returns : goal.returns
unfolding plan_square
returns c = c.plan_between.ensures
