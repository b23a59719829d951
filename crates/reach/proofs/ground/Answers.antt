-- `ground` takes off 4.80 dB less what a high ray gives back, never below nothing. Assumes nothing.
use Rattle.road.specs.Reach.{ground_term}
use Rattle.reach.proofs.ground.Goals as goal

pub returns : goal.returns
unfolding ground_term
returns c = c.saturating_sub.ensures
