-- `indices` reads a receiver's account and tells its two indices. Assumes nothing.
use Rattle.std.specs.Prelude.{Ok}
use mathlib.Core.Path.{sym, ap, ◌∙◌}
use mathlib.Core.Option.{none}
use lib.ListN.{get_or}
use borrow.Author.Tests.{leb-true}
use Rattle.std.proofs.lemmas.Result.{err_from_is_err_and}
use Rattle.store.specs.declared.Held.{Held}
use Rattle.store.specs.Slots.{entry}
use Rattle.store.specs.Store.{book_of}
use Rattle.store.proofs.Laws.{undamaged, sound_book, seat_is}
use Rattle.calls.specs.declared.Reply.TheVariants.{Levels}
use Rattle.calls.specs.Calls.{Step, tell}
use Rattle.index.specs.Index.{lden_of, lnight_of}
use Rattle.ledger.proofs.Rounds.{and_both}
use Rattle.undamaged.proofs.Judged.{found_free, found_used}
use Rattle.undamaged.proofs.indices.Goals as goal

-- what is told of a receiver in use
abbrev levels : Held → Step
levels x = tell (Ok (Levels (lden_of x.sums.day x.sums.evening x.sums.night) (lnight_of x.sums.night)))

pub read-requires : goal.read-requires
read-requires c = (c.requires.1, (undamaged c.args.store.now c.requires.0).0)

pub returns-in_err-x : goal.returns-in_err-x
returns-in_err-x c =
    let s = c.args.store.now in
    let p = err_from_is_err_and c.from_residual.result c.from_residual.ensures.1 in
    rw (p.1, p.2)
    (found_free s (get_or (book_of s).receivers c.args.j none) levels c.read.result _ (seat_is s c.args.j c.requires.0 c.requires.1 ∙ ap entry (sym c.read.ensures)) c.in_err-x.ensures.value)

pub lden-den-requires : goal.lden-den-requires
lden-den-requires c =
    let s = c.args.store.now in
    let f = found_used s (get_or (book_of s).receivers c.args.j none) levels c.read.result c.in_ok-x.x
    (seat_is s c.args.j c.requires.0 c.requires.1 ∙ ap entry (sym c.read.ensures)) c.in_ok-x.ensures.value in
    let st = (sound_book s c.requires.0).receivers_stand c.args.j c.in_ok-x.x f.0 in
    let a = and_both _ _ st.1 in
    let b = and_both _ _ a.0 in
    (leb-true _ _ b.0, leb-true _ _ b.1, leb-true _ _ a.1, c.level-late.ensures)

pub returns : goal.returns
returns c =
    let s = c.args.store.now in
    let f = found_used s (get_or (book_of s).receivers c.args.j none) levels c.read.result c.in_ok-x.x
    (seat_is s c.args.j c.requires.0 c.requires.1 ∙ ap entry (sym c.read.ensures)) c.in_ok-x.ensures.value in
    (λ i. (Ok (Levels (c.lden-den.ensures i) (c.lnight-night.ensures i)), s)) ∙ f.1
