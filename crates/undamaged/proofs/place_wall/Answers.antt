-- `place_wall` judges the slot, then the fields. Assumes nothing.
use mathlib.Core.Path.{◌∙◌}
use mathlib.Core.Option.{some}
use Rattle.std.proofs.lemmas.Result.{err_from_is_err_and}
use Rattle.road.specs.Judge.{wall_verdict}
use Rattle.store.specs.Store.{last_wall, book_of}
use Rattle.calls.specs.Calls.{change_wall, place_wall}
use Rattle.calls.proofs.Keeps.{wall_in_kept}
use Rattle.undamaged.proofs.Judged.{slot_refused, fields_refused, all_allowed}
use Rattle.undamaged.proofs.place_wall.Goals as goal

pub returns-in_err-judge_slot : goal.returns-in_err-judge_slot
unfolding place_wall
returns-in_err-judge_slot c =
    let p = err_from_is_err_and c.from_residual.result c.from_residual.ensures.1 in
    let s = c.args.store.now in
    rw (p.1, p.2) (slot_refused s last_wall c.args.slot (wall_verdict c.args.w) (change_wall c.args.slot (some c.args.w) (book_of s)) _ c.in_err-judge_slot.ensures, c.requires)

pub returns-in_err-judge_wall : goal.returns-in_err-judge_wall
unfolding place_wall
returns-in_err-judge_wall c =
    let p = err_from_is_err_and c.from_residual-in_err-judge_wall.result c.from_residual-in_err-judge_wall.ensures.1 in
    let s = c.args.store.now in
    rw (p.1, p.2)
    (fields_refused s last_wall c.args.slot (wall_verdict c.args.w) (change_wall c.args.slot (some c.args.w) (book_of s)) c.in_ok-judge_slot.ensures _ c.in_err-judge_wall.ensures, c.requires)

pub returns : goal.returns
unfolding place_wall
returns c =
    let s = c.args.store.now in
    let e =
    c.change_wall.ensures
    ∙ all_allowed s last_wall c.args.slot (wall_verdict c.args.w) (λ n. change_wall n (some c.args.w) (book_of s)) _ c.from.ensures c.in_ok-judge_slot.ensures c.in_ok-judge_wall.ensures in
    (e, wall_in_kept s c.requires c.args.slot c.args.w e)
