-- Two ends are judged by the rows of their table, and then their length.
use Rattle.std.specs.Prelude.{ℕ, List, Ok, ◌≡◌}
use Rattle.std.proofs.Common.{sym, ap, ◌∙◌}
use Rattle.std.proofs.lemmas.Result.{err_from_is_err_and}
use borrow.Author.Tests.{ltb-false}
use Rattle.course.specs.declared.Ends.{Ends}
use Rattle.road.specs.Results.{Verdict}
use Rattle.road.specs.Fields.{ends_table, length_table, values_by}
use Rattle.road.specs.Judge.{unless_outside}
use Rattle.road.proofs.Judged.{fields_after, first_allows, first_refuses}
use Rattle.road.proofs.Fit.{past, ends_mapped}
use Rattle.fields.specs.Rows.{rows_of}
use Rattle.judge.specs.Rows.{judged}
use Rattle.judge.proofs.Rows.{by_rows}
use Rattle.judge.proofs.judge_ends.Goals as goal

-- what is told of the coordinates
first : (e : Ends) (v : List ℕ) (r : Verdict) → r ≡ judged (rows_of ends_table e) v → v ≡ values_by ends_table e → unless_outside ends_table e (Ok tt) ≡ r
first e v r f g = sym (f ∙ ap (judged (rows_of ends_table e)) g ∙ by_rows ends_table e)

pub judge_length-requires : goal.judge_length-requires
judge_length-requires c =
    let h = first c.args.e c.ends_values.result c.judged.result c.judged.ensures c.ends_values.ensures ∙ c.in_ok-judged.was in
    ends_mapped c.args.e (ltb-false _ _ (past ends_table c.args.e (Ok tt) h).0)

pub returns : goal.returns
returns c =
    let e = c.args.e in
    let l : Verdict = unless_outside length_table e (Ok tt) in
    let h = first e c.ends_values.result c.judged.result c.judged.ensures c.ends_values.ensures ∙ c.in_ok-judged.was in
    c.judge_length.ensures ∙ sym (first_allows _ l _ (fields_after ends_table e l) h)

pub returns-in_err-judged : goal.returns-in_err-judged
returns-in_err-judged c =
    let e = c.args.e in
    let l : Verdict = unless_outside length_table e (Ok tt) in
    let h = first e c.ends_values.result c.judged.result c.judged.ensures c.ends_values.ensures ∙ c.in_err-judged.was in
    let p = err_from_is_err_and c.from_residual.result c.from_residual.ensures.1 in
    rw (p.1, p.2) (sym (first_refuses _ l _ _ (fields_after ends_table e l) h))
