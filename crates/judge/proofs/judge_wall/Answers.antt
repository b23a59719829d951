-- A wall is judged by the rows of its table, with the limits that hold for it.
use mathlib.Core.Path.{◌∙◌}
use Rattle.road.specs.Fields.{wall_table}
use Rattle.road.specs.Judge.{wall_verdict}
use Rattle.judge.specs.Rows.{judged}
use Rattle.judge.proofs.Rows.{by_rows}
use Rattle.judge.proofs.judge_wall.Goals as goal

pub returns : goal.returns
unfolding wall_verdict
returns c =
    c.judged.ensures ∙ (λ i. judged (c.wall_rows.ensures i) (c.wall_values.ensures i)) ∙ by_rows wall_table c.args.w
