-- `begin_all` begins with every seat. Assumes nothing.
use mathlib.Core.Path.{sym, ap, ◌∙◌}
use native.Mathlib.Omega.{arith}
use mathlib.Core.Option.{none}
use Rattle.store.specs.Slots.{entry}
use Rattle.store.specs.Store.{book_of}
use Rattle.store.proofs.Laws.{undamaged, sound_book, seat_is}
use Rattle.ledger.specs.Ledger.{begun}
use Rattle.ledger.proofs.Mapped.{filled_none, filled_next}
use Rattle.afresh.proofs.begin_all.Goals as goal

pub loop-j-init : goal.loop-j-init
loop-j-init c = filled_none begun none (book_of c.args.store.now).receivers _ (sym (sound_book c.args.store.now c.requires).seats)

pub read-requires : goal.read-requires
read-requires c = (c.loop-j-test.true, (undamaged c.args.store.now c.requires).0)

pub loop-j-preserved : goal.loop-j-preserved
loop-j-preserved c =
    let s = c.args.store.now in
    let e = c.begin.ensures ∙ ap begun (sym (seat_is s c.loop-j.j c.requires c.loop-j-test.true ∙ ap entry (sym c.read.ensures))) in
    filled_next begun none (book_of s).receivers c.loop-j.t-items c.loop-j.j c.begin.result (omega (arith, (sound_book s c.requires).seats, c.loop-j-test.true)) e c.loop-j.invariant
