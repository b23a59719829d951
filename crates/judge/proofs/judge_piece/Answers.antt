-- A piece is judged by the rows of its table.
use mathlib.Core.Path.{ap, ◌∙◌}
use Rattle.road.specs.Fields.{piece_table}
use Rattle.fields.specs.Rows.{rows_of}
use Rattle.judge.specs.Rows.{judged}
use Rattle.judge.proofs.Rows.{by_rows}
use Rattle.judge.proofs.judge_piece.Goals as goal

pub returns : goal.returns
returns c =
    c.judged.ensures ∙ ap (judged (rows_of piece_table c.args.p)) c.piece_values.ensures ∙ by_rows piece_table c.args.p
