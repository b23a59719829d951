-- The length of two ends is judged by its row.
use mathlib.Core.Path.{◌∙◌}
use mathlib.Core.List.{[], ◌∷◌}
use Rattle.road.specs.Fields.{length_table}
use Rattle.fields.specs.Rows.{rows_of}
use Rattle.judge.specs.Rows.{judged}
use Rattle.judge.proofs.Rows.{by_rows}
use Rattle.judge.proofs.judge_length.Goals as goal

pub returns : goal.returns
returns c =
    let v = c.from.ensures ∙ c.length.ensures in
    c.judged.ensures ∙ (λ i. judged (rows_of length_table c.args.e) (v i ∷ [])) ∙ by_rows length_table c.args.e
