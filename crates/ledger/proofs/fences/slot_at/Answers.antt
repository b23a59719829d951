-- `slot_at` reads the slot, but for the one that changes. Assumes nothing.
use mathlib.Core.Path.{sym, ap, ◌∙◌}
use Prim.Native.Nat.{ℕ}
use native.Mathlib.Omega.{arith}
use mathlib.Core.Option.{Option, none}
use lib.ListN.{get_or, set}
use lib.Seq.{get_or-set_same, get_or-set_other}
use Rattle.screen.specs.declared.Wall.{Wall}
use Rattle.store.specs.Slots.{entry}
use Rattle.store.specs.Store.{book_of}
use Rattle.store.proofs.Laws.{undamaged, sound_book, wall_slot_is}
use Rattle.ledger.proofs.fences.slot_at.Goals as goal

pub returns-then-k-changes : goal.returns-then-k-changes
returns-then-k-changes c =
    let l = (book_of c.args.store.now).walls in
    let o : Option Wall = entry c.args.other in
    sym
    (ap (λ (n : ℕ). get_or (set l c.args.changes o) n none) c.if-k-changes.true
    ∙ get_or-set_same l c.args.changes o none (omega (arith, (sound_book c.args.store.now c.requires.0).wall_slots_lem, c.requires.1, c.if-k-changes.true)))

pub read-requires : goal.read-requires
read-requires c = (c.requires.1, (undamaged c.args.store.now c.requires.0).0)

pub returns : goal.returns
returns c =
    let s = c.args.store.now in
    sym
    (get_or-set_other (book_of s).walls c.args.changes c.args.k (entry c.args.other) none c.if-k-changes.false
    ∙ wall_slot_is s c.args.k c.requires.0 c.requires.1 ∙ ap entry (sym c.read.ensures))
