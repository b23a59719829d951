-- `leave_source` withdraws a source only from a slot that is used. Assumes nothing.
use mathlib.Core.Path.{sym, ap, ◌∙◌}
use mathlib.Core.Option.{none, some}
use lib.ListN.{get_or}
use Rattle.std.proofs.lemmas.Result.{err_from_is_err_and}
use Rattle.road.specs.declared.Source.{Source}
use Rattle.store.specs.Slots.{entry}
use Rattle.store.specs.Store.{book_of}
use Rattle.store.proofs.Laws.{undamaged, sound_book, source_slot_is}
use Rattle.calls.specs.Calls.{change_source}
use Rattle.undamaged.proofs.Judged.{found_free, found_used}
use Rattle.undamaged.proofs.leave_source.Goals as goal

pub read-requires : goal.read-requires
read-requires c = (c.requires.1, (undamaged c.args.store.now c.requires.0).0)

pub returns-in_err-s : goal.returns-in_err-s
returns-in_err-s c =
    let s = c.args.store.now in
    let p = err_from_is_err_and c.from_residual.result c.from_residual.ensures.1 in
    rw (p.1, p.2)
    (found_free s (get_or (book_of s).sources c.args.i none) (λ (x : Source). change_source c.args.i none (book_of s)) c.read.result _
    (source_slot_is s c.args.i c.requires.0 c.requires.1 ∙ ap entry (sym c.read.ensures)) c.in_err-s.ensures.value)

pub sends-goes-requires : goal.sends-goes-requires
sends-goes-requires c =
    let s = c.args.store.now in
    let f = found_used s (get_or (book_of s).sources c.args.i none) (λ (x : Source). change_source c.args.i none (book_of s)) c.read.result c.in_ok-s.s
    (source_slot_is s c.args.i c.requires.0 c.requires.1 ∙ ap entry (sym c.read.ensures)) c.in_ok-s.ensures.value in
    ((sound_book s c.requires.0).sources_stand c.args.i c.in_ok-s.s f.0).0

pub change_source-requires : goal.change_source-requires
change_source-requires c =
    let s = c.args.store.now in
    let f = found_used s (get_or (book_of s).sources c.args.i none) (λ (x : Source). change_source c.args.i none (book_of s)) c.read.result c.in_ok-s.s
    (source_slot_is s c.args.i c.requires.0 c.requires.1 ∙ ap entry (sym c.read.ensures)) c.in_ok-s.ensures.value in
    (c.requires.0, c.requires.1, ap some c.sends-goes.ensures ∙ sym f.0)

pub returns : goal.returns
returns c =
    let s = c.args.store.now in
    let f = found_used s (get_or (book_of s).sources c.args.i none) (λ (x : Source). change_source c.args.i none (book_of s)) c.read.result c.in_ok-s.s
    (source_slot_is s c.args.i c.requires.0 c.requires.1 ∙ ap entry (sym c.read.ensures)) c.in_ok-s.ensures.value in
    c.change_source.ensures ∙ f.1
