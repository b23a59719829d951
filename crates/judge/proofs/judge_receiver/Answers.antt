-- A receiver is judged by the rows of its table.
use mathlib.Core.Path.{ap, ◌∙◌}
use Rattle.road.specs.Fields.{receiver_table}
use Rattle.road.specs.Judge.{receiver_verdict}
use Rattle.fields.specs.Rows.{rows_of}
use Rattle.judge.specs.Rows.{judged}
use Rattle.judge.proofs.Rows.{by_rows}
use Rattle.judge.proofs.judge_receiver.Goals as goal

pub returns : goal.returns
unfolding receiver_verdict
returns c =
    c.judged.ensures ∙ ap (judged (rows_of receiver_table c.args.r)) c.receiver_values.ensures ∙ by_rows receiver_table c.args.r
