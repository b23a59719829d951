-- A road is judged by the first rows of a source.
use mathlib.Core.Path.{sym, ap, ◌∙◌}
use mathlib.Core.List.{List}
use native.Mathlib.Omega.{arith}
use lib.ListN.{length, take}
use Rattle.fields.specs.declared.Row.{Row}
use Rattle.road.specs.Fields.{road_table}
use Rattle.judge.specs.Rows.{judged}
use Rattle.judge.proofs.Rows.{by_rows}
use Rattle.judge.proofs.judge_road.Goals as goal

pub slice_bounds-judged-end : goal.slice_bounds-judged-end
slice_bounds-judged-end c = omega (arith, ap (length {A = Row}) c.source_rows.ensures)

pub slice_bounds-judged-end-2 : goal.slice_bounds-judged-end-2
slice_bounds-judged-end-2 c = ap (λ (l : List Row). length (take 9 l)) (sym c.source_rows.ensures)

pub returns : goal.returns
returns c =
    c.judged.ensures ∙ (λ i. judged (take 9 (c.source_rows.ensures i)) (take 9 (c.source_values.ensures i))) ∙ by_rows road_table c.args.s
