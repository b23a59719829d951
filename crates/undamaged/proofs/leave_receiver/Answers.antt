-- `leave_receiver` makes a used slot all zero. Assumes nothing.
use Rattle.std.specs.Prelude.{Ok}
use mathlib.Core.Path.{refl, sym, ap, ◌∙◌}
use Prim.Native.Nat.{ℕ}
use mathlib.Core.List.{List}
use mathlib.Core.Option.{none}
use lib.ListN.{get_or, set}
use Rattle.store.specs.declared.Held.{Held}
use Rattle.store.specs.Slots.{entry}
use Rattle.store.specs.Store.{Book, book, book_of}
use Rattle.store.proofs.Laws.{undamaged, seat_is, set_held}
use Rattle.calls.specs.declared.Reply.TheVariants.{Done}
use Rattle.calls.specs.Calls.{Step, change}
use Rattle.undamaged.proofs.Judged.{is_free, is_used}
use Rattle.undamaged.proofs.leave_receiver.Goals as goal

-- the book without the receiver
abbrev without : Book → ℕ → Step
without b j = change (book b.sources (set b.receivers j none) b.walls)

pub read-requires : goal.read-requires
read-requires c = (c.requires.1, (undamaged c.args.store.now c.requires.0).0)

pub returns-then-is_none : goal.returns-then-is_none
returns-then-is_none c =
    let s = c.args.store.now in
    is_free s (get_or (book_of s).receivers c.args.j none) (λ (x : Held). without (book_of s) c.args.j) c.read.result
    (seat_is s c.args.j c.requires.0 c.requires.1 ∙ ap entry (sym c.read.ensures)) c.if-is_none.ensures

pub put-requires-clause-place : goal.put-requires-clause-place
put-requires-clause-place c = (c.requires.1, (undamaged c.args.store.now c.requires.0).0)

pub returns : goal.returns
returns c =
    let s = c.args.store.now in
    ap (λ (u : List ℕ). (Ok Done, u)) (c.put.ensures ∙ set_held s c.args.j none (λ i. (c.slice_known-1.given i).fits) c.requires.0 c.requires.1)
    ∙ is_used s (get_or (book_of s).receivers c.args.j none) (λ (x : Held). without (book_of s) c.args.j) (without (book_of s) c.args.j) c.read.result
    (seat_is s c.args.j c.requires.0 c.requires.1 ∙ ap entry (sym c.read.ensures)) c.if-is_none.ensures (λ x. refl)
