-- The course is judged before the other fields.
use Rattle.std.proofs.Common.{sym, ◌∙◌}
use Rattle.std.proofs.lemmas.Result.{err_from_is_err_and}
use Rattle.road.specs.Judge.{rest_verdict, source_verdict}
use Rattle.road.proofs.Judged.{course_after, first_allows, first_refuses}
use Rattle.judge.proofs.judge_source.Goals as goal

pub returns-in_err-judge_course : goal.returns-in_err-judge_course
unfolding source_verdict
returns-in_err-judge_course c =
    let v = rest_verdict c.args.s in
    let p = err_from_is_err_and c.from_residual.result c.from_residual.ensures.1 in
    rw (p.1, p.2) (sym (first_refuses _ v _ _ (course_after c.args.s.course v) (sym c.judge_course.ensures ∙ c.in_err-judge_course.was)))

pub returns : goal.returns
unfolding source_verdict
returns c =
    let v = rest_verdict c.args.s in
    c.judge_rest.ensures ∙ sym (first_allows _ v _ (course_after c.args.s.course v) (sym c.judge_course.ensures ∙ c.in_ok-judge_course.was))
