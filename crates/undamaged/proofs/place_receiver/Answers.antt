-- `place_receiver` judges the slot, then the fields. Assumes nothing.
use mathlib.Core.Path.{◌∙◌}
use mathlib.Core.Option.{some}
use Rattle.std.proofs.lemmas.Result.{err_from_is_err_and}
use Rattle.road.specs.Judge.{receiver_verdict}
use Rattle.store.specs.Store.{last_receiver, book_of}
use Rattle.calls.specs.Calls.{change_receiver, place_receiver}
use Rattle.calls.proofs.Keeps.{receiver_in_kept}
use Rattle.undamaged.proofs.Judged.{slot_refused, fields_refused, all_allowed}
use Rattle.undamaged.proofs.place_receiver.Goals as goal

pub returns-in_err-judge_slot : goal.returns-in_err-judge_slot
unfolding place_receiver
returns-in_err-judge_slot c =
    let p = err_from_is_err_and c.from_residual.result c.from_residual.ensures.1 in
    let s = c.args.store.now in
    rw (p.1, p.2) (slot_refused s last_receiver c.args.slot (receiver_verdict c.args.r) (change_receiver c.args.slot (some c.args.r) (book_of s)) _ c.in_err-judge_slot.ensures, c.requires)

pub returns-in_err-judge_receiver : goal.returns-in_err-judge_receiver
unfolding place_receiver
returns-in_err-judge_receiver c =
    let p = err_from_is_err_and c.from_residual-in_err-judge_receiver.result c.from_residual-in_err-judge_receiver.ensures.1 in
    let s = c.args.store.now in
    rw (p.1, p.2)
    (fields_refused s last_receiver c.args.slot (receiver_verdict c.args.r) (change_receiver c.args.slot (some c.args.r) (book_of s)) c.in_ok-judge_slot.ensures _ c.in_err-judge_receiver.ensures, c.requires)

pub returns : goal.returns
unfolding place_receiver
returns c =
    let s = c.args.store.now in
    let e =
    c.enter_receiver.ensures
    ∙ all_allowed s last_receiver c.args.slot (receiver_verdict c.args.r) (λ n. change_receiver n (some c.args.r) (book_of s)) _ c.from.ensures c.in_ok-judge_slot.ensures c.in_ok-judge_receiver.ensures in
    (e, receiver_in_kept s c.requires c.args.slot c.args.r e)
