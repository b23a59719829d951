-- `crosses` looks on which sides of the wall the two points lie, and then on which sides of the plan line the wall's ends. Assumes nothing.
use mathlib.Core.Path.{sym, ap, ◌∙◌}
use mathlib.Core.Bool.{not}
use Rattle.screen.specs.declared.Point.{Point}
use Rattle.screen.specs.Plan.{turn, opposite, beside}
use Rattle.screen.proofs.Lines.{counts_not, counts_by_lem}
use Rattle.screen.proofs.plan.crosses.Goals as goal

pub returns-then-not-opposite : goal.returns-then-not-opposite
returns-then-not-opposite c =
    let parts = c.opposite.ensures ∙ (λ i. opposite (c.turn.ensures i) (c.turn-2.ensures i))
    ∙ ap (λ (e : Point × Point). opposite (turn e.0 e.1 c.args.p) (turn e.0 e.1 c.args.r)) c.ends.ensures in
    sym (counts_not c.args.p c.args.r c.args.w (sym parts ∙ c.if-not-opposite.true))

pub returns : goal.returns
returns c =
    let parts = c.opposite.ensures ∙ (λ i. opposite (c.turn.ensures i) (c.turn-2.ensures i))
    ∙ ap (λ (e : Point × Point). opposite (turn e.0 e.1 c.args.p) (turn e.0 e.1 c.args.r)) c.ends.ensures in
    let miss = c.beside.ensures ∙ (λ i. beside (c.turn-3.ensures i) (c.turn-4.ensures i))
    ∙ ap (λ (e : Point × Point). beside (turn c.args.p c.args.r e.0) (turn c.args.p c.args.r e.1)) c.ends.ensures in
    ap not miss ∙ sym (counts_by_lem c.args.p c.args.r c.args.w (sym parts ∙ c.if-not-opposite.false))
