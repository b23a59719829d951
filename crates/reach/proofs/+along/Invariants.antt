-- The number that falls is the length of the road, by its ends. Assumes nothing.
use Rattle.course.specs.Course.{length_of}
use Rattle.reach.proofs.+along.Given as goal

abbrev pub decreases-along : goal.decreases-along
decreases-along l = length_of l.e
