-- `place_source` judges the slot, then the fields. Assumes nothing.
use mathlib.Core.Path.{◌∙◌}
use mathlib.Core.Option.{some}
use Rattle.std.proofs.lemmas.Result.{err_from_is_err_and}
use Rattle.road.specs.Judge.{source_verdict}
use Rattle.road.proofs.Periods.{owned_periods}
use Rattle.store.specs.Store.{last_source, book_of}
use Rattle.calls.specs.Calls.{change_source, place_source}
use Rattle.calls.proofs.Keeps.{source_in_kept}
use Rattle.undamaged.proofs.Judged.{slot_refused, fields_refused, all_allowed}
use Rattle.undamaged.proofs.place_source.Goals as goal

pub returns-in_err-judge_slot : goal.returns-in_err-judge_slot
unfolding place_source
returns-in_err-judge_slot c =
    let p = err_from_is_err_and c.from_residual.result c.from_residual.ensures.1 in
    let s = c.args.store.now in
    rw (p.1, p.2) (slot_refused s last_source c.args.slot (source_verdict c.args.s) (change_source c.args.slot (some c.args.s) (book_of s)) _ c.in_err-judge_slot.ensures, c.requires)

pub returns-in_err-judge_source : goal.returns-in_err-judge_source
unfolding place_source
returns-in_err-judge_source c =
    let p = err_from_is_err_and c.from_residual-in_err-judge_source.result c.from_residual-in_err-judge_source.ensures.1 in
    let s = c.args.store.now in
    rw (p.1, p.2)
    (fields_refused s last_source c.args.slot (source_verdict c.args.s) (change_source c.args.slot (some c.args.s) (book_of s)) c.in_ok-judge_slot.ensures _ c.in_err-judge_source.ensures, c.requires)

pub returns : goal.returns
unfolding place_source
returns c =
    let s = c.args.store.now in
    let e =
    c.enter_source.ensures
    ∙ all_allowed s last_source c.args.slot (source_verdict c.args.s) (λ n. change_source n (some c.args.s) (book_of s)) _ c.from.ensures c.in_ok-judge_slot.ensures c.in_ok-judge_source.ensures in
    (e, source_in_kept s c.requires c.args.slot c.args.s (owned_periods c.args.s _ c.well_formed.1.1.0) e)
