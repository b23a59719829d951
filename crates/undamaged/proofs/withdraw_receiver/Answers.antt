-- `withdraw_receiver` judges the slot first. Assumes nothing.
use Rattle.std.specs.Prelude.{Ok}
use mathlib.Core.Path.{refl, ◌∙◌}
use Rattle.std.proofs.lemmas.Result.{err_from_is_err_and}
use Rattle.store.specs.Store.{last_receiver, book_of}
use Rattle.calls.specs.Calls.{leave_receiver, withdraw_receiver}
use Rattle.calls.proofs.Keeps.{receiver_out_kept}
use Rattle.undamaged.proofs.Judged.{slot_refused, all_allowed}
use Rattle.undamaged.proofs.withdraw_receiver.Goals as goal

pub returns-in_err-judge_slot : goal.returns-in_err-judge_slot
unfolding withdraw_receiver
returns-in_err-judge_slot c =
    let p = err_from_is_err_and c.from_residual.result c.from_residual.ensures.1 in
    let s = c.args.store.now in
    rw (p.1, p.2) (slot_refused s last_receiver c.args.slot (Ok tt) (leave_receiver c.args.slot (book_of s)) _ c.in_err-judge_slot.ensures, c.requires)

pub returns : goal.returns
unfolding withdraw_receiver
returns c =
    let s = c.args.store.now in
    let e = c.leave_receiver.ensures ∙ all_allowed s last_receiver c.args.slot (Ok tt) (λ n. leave_receiver n (book_of s)) _ c.from.ensures c.in_ok-judge_slot.ensures refl in
    (e, receiver_out_kept s c.requires c.args.slot e)
