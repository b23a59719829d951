-- `at_last` is refused 2 where a length is wrong. Assumes nothing.
use mathlib.Core.Path.{sym, ap, ◌∙◌}
use mathlib.Core.Bool.{Bool}
use mathlib.Core.Option.{none}
use Rattle.viewer.specs.Viewer.{result_of, lastly}
use Rattle.viewer.proofs.at_last.Goals as goal

pub returns-then-wrong : goal.returns-then-wrong
returns-then-wrong c = c.refused.ensures ∙ ap (λ (t : Bool). result_of (lastly t none)) (sym c.if-wrong.true)

pub returns : goal.returns
returns c = ap (λ (t : Bool). result_of (lastly t none)) (sym c.if-wrong.false)
