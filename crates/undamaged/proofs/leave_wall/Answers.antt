-- `leave_wall` withdraws a wall only from a slot that is used. Assumes nothing.
use mathlib.Core.Path.{refl, sym, ap, ◌∙◌}
use mathlib.Core.Option.{none}
use lib.ListN.{get_or}
use Rattle.screen.specs.declared.Wall.{Wall}
use Rattle.store.specs.Slots.{entry}
use Rattle.store.specs.Store.{book_of}
use Rattle.store.proofs.Laws.{undamaged, wall_slot_is}
use Rattle.calls.specs.Calls.{change_wall}
use Rattle.undamaged.proofs.Judged.{is_free, is_used}
use Rattle.undamaged.proofs.leave_wall.Goals as goal

pub read-requires : goal.read-requires
read-requires c = (c.requires.1, (undamaged c.args.store.now c.requires.0).0)

pub returns-then-is_none : goal.returns-then-is_none
returns-then-is_none c =
    let s = c.args.store.now in
    is_free s (get_or (book_of s).walls c.args.k none) (λ (w : Wall). change_wall c.args.k none (book_of s)) c.read.result
    (wall_slot_is s c.args.k c.requires.0 c.requires.1 ∙ ap entry (sym c.read.ensures)) c.if-is_none.ensures

pub returns : goal.returns
returns c =
    let s = c.args.store.now in
    c.change_wall.ensures
    ∙ is_used s (get_or (book_of s).walls c.args.k none) (λ (w : Wall). change_wall c.args.k none (book_of s)) (change_wall c.args.k none (book_of s)) c.read.result
    (wall_slot_is s c.args.k c.requires.0 c.requires.1 ∙ ap entry (sym c.read.ensures)) c.if-is_none.ensures (λ w. refl)
