-- The class and the vehicles a day are judged by their rows, and then the source that they stand for.
-- Assumes nothing.
use Rattle.std.specs.Prelude.{ℕ, [], ◌∷◌, Ok, ◌≡◌}
use Rattle.std.proofs.Common.{sym, ap, ◌∙◌, arith}
use Rattle.std.proofs.lemmas.Result.{err_from_is_err_and}
use borrow.Author.Tests.{ltb-false}
use Rattle.road.specs.Results.{Verdict}
use Rattle.road.specs.Judge.{unless_outside, rest_verdict}
use Rattle.road.proofs.Fit.{past}
use Rattle.road.proofs.Judged.{fields_after, first_allows, first_refuses}
use Rattle.fields.specs.Rows.{rows_of}
use Rattle.judge.specs.Rows.{judged}
use Rattle.judge.proofs.Rows.{by_rows}
use Rattle.daily.specs.declared.Daily.{Daily}
use Rattle.daily.specs.Daily.{counted, daily_table}
use Rattle.daily.proofs.Laws.{inside_figured}
use Rattle.daily.proofs.judge_daily.Goals as goal

-- what is told of the two
first : (d : Daily) (k n : ℕ) (r : Verdict) → r ≡ judged (rows_of daily_table d) (k ∷ n ∷ []) → k ≡ d.class → n ≡ d.dtv → unless_outside daily_table d (Ok tt) ≡ r
first d k n r f g h = sym (f ∙ (λ i. judged (rows_of daily_table d) (g i ∷ h i ∷ [])) ∙ by_rows daily_table d)

pub counted-requires : goal.counted-requires
counted-requires c =
    let h = first c.args.d c.from.result c.from-2.result c.judged.result c.judged.ensures c.from.ensures c.from-2.ensures ∙ c.in_ok-judged.was in
    let g = inside_figured c.args.d (ltb-false _ _ (past daily_table c.args.d (Ok tt) h).0) in
    (g.0, omega (arith, g.1.1))

pub returns-in_err-judged : goal.returns-in_err-judged
returns-in_err-judged c =
    let v = rest_verdict (counted c.args.course c.args.d c.args.s) in
    let h = first c.args.d c.from.result c.from-2.result c.judged.result c.judged.ensures c.from.ensures c.from-2.ensures ∙ c.in_err-judged.was in
    let p = err_from_is_err_and c.from_residual.result c.from_residual.ensures.1 in
    rw (p.1, p.2) (sym (first_refuses _ v _ _ (fields_after daily_table c.args.d v) h))

pub returns : goal.returns
returns c =
    let v = rest_verdict (counted c.args.course c.args.d c.args.s) in
    let h = first c.args.d c.from.result c.from-2.result c.judged.result c.judged.ensures c.from.ensures c.from-2.ensures ∙ c.in_ok-judged.was in
    c.judge_rest.ensures ∙ ap rest_verdict c.counted.ensures ∙ sym (first_allows _ v _ (fields_after daily_table c.args.d v) h)
