-- `whole` is at the mean of the ends. Assumes nothing.
use borrow.Author.Rules.{rules}
use Rattle.course.specs.Course.{one_piece}
use Rattle.course.proofs.whole.Goals as goal

pub returns : goal.returns
unfolding one_piece
returns c = search rules
