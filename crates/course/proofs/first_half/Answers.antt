-- `first_half` goes from the first end to the middle. Assumes nothing.
use borrow.Author.Rules.{rules}
use Rattle.course.specs.Course.{first_half}
use Rattle.course.proofs.first_half.Goals as goal

pub returns : goal.returns
unfolding first_half
returns c = search rules
