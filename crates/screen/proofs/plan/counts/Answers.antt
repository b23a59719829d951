-- `counts` asks for the turns of a wall that does not lie aside. Assumes nothing.
use mathlib.Core.Path.{sym, ◌∙◌}
use Rattle.screen.proofs.Aside.{aside_not}
use Rattle.screen.proofs.plan.counts.Goals as goal

pub returns-then-aside : goal.returns-then-aside
returns-then-aside c =
    sym (aside_not c.args.p c.args.r c.args.w (sym c.aside.ensures ∙ c.if-aside.true))
