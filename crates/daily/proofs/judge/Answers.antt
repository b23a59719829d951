-- The course is judged first, then the fields of the road, then the daily figure.
-- Assumes nothing.
use Rattle.std.proofs.Common.{sym, ◌∙◌}
use Rattle.std.proofs.lemmas.Result.{err_from_is_err_and}
use Rattle.road.specs.Fields.{road_table}
use Rattle.road.specs.Judge.{unless_outside, rest_verdict}
use Rattle.road.proofs.Judged.{fields_after, course_after, first_allows, first_refuses}
use Rattle.daily.specs.Daily.{counted, daily_table, daily_verdict}
use Rattle.daily.proofs.judge.Goals as goal

pub returns-in_err-judge_course : goal.returns-in_err-judge_course
unfolding daily_verdict
returns-in_err-judge_course c =
    let d = unless_outside daily_table c.args.d (rest_verdict (counted c.args.course c.args.d c.args.s)) in
    let v = unless_outside road_table c.args.s d in
    let p = err_from_is_err_and c.from_residual.result c.from_residual.ensures.1 in
    rw (p.1, p.2) (sym (first_refuses _ v _ _ (course_after c.args.course v) (sym c.judge_course.ensures ∙ c.in_err-judge_course.was)))

pub returns-in_err-judge_road : goal.returns-in_err-judge_road
unfolding daily_verdict
returns-in_err-judge_road c =
    let d = unless_outside daily_table c.args.d (rest_verdict (counted c.args.course c.args.d c.args.s)) in
    let v = unless_outside road_table c.args.s d in
    let a = first_allows _ v _ (course_after c.args.course v) (sym c.judge_course.ensures ∙ c.in_ok-judge_course.was) in
    let b = first_refuses _ d _ _ (fields_after road_table c.args.s d) (sym c.judge_road.ensures ∙ c.in_err-judge_road.was) in
    let p = err_from_is_err_and c.from_residual-in_err-judge_road.result c.from_residual-in_err-judge_road.ensures.1 in
    rw (p.1, p.2) (sym (a ∙ b))

pub returns : goal.returns
unfolding daily_verdict
returns c =
    let d = unless_outside daily_table c.args.d (rest_verdict (counted c.args.course c.args.d c.args.s)) in
    let v = unless_outside road_table c.args.s d in
    let a = first_allows _ v _ (course_after c.args.course v) (sym c.judge_course.ensures ∙ c.in_ok-judge_course.was) in
    let b = first_allows _ d _ (fields_after road_table c.args.s d) (sym c.judge_road.ensures ∙ c.in_ok-judge_road.was) in
    c.judge_daily.ensures ∙ sym b ∙ sym a
