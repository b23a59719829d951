-- `length` is the root of the squared distance of the ends. Assumes nothing.
use mathlib.Core.Path.{ap, ◌∙◌}
use Rattle.root.specs.Root.{root_of}
use Rattle.root.proofs.Laws.{root_settled}
use Rattle.course.specs.Course.{length_of}
use Rattle.course.proofs.length.Goals as goal

pub returns : goal.returns
unfolding length_of
returns c = root_settled _ _ c.root-root.ensures ∙ ap root_of c.squared.ensures
