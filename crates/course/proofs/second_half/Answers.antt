-- `second_half` goes from the middle to the second end. Assumes nothing.
use borrow.Author.Rules.{rules}
use Rattle.course.specs.Course.{second_half}
use Rattle.course.proofs.second_half.Goals as goal

pub returns : goal.returns
unfolding second_half
returns c = search rules
