-- `clear` wipes a store of the right length and refuses any other. Assumes nothing.
use Rattle.std.specs.Prelude.{Ok}
use mathlib.Core.Path.{ap}
use Prim.Native.Nat.{ℕ}
use mathlib.Core.List.{List}
use lib.ListN.{length}
use borrow.Author.Tests.{eq-eqb, ne_eqb}
use Rattle.store.specs.Store.{store_length}
use Rattle.calls.specs.declared.Reply.TheVariants.{Done}
use Rattle.calls.specs.Calls.{clear_store}
use Rattle.book.proofs.clear.Goals as goal

pub returns-then-unfit : goal.returns-then-unfit
unfolding clear_store store_length
returns-then-unfit c = rw (ne_eqb (length c.args.store.now) store_length c.if-unfit.true, clear_store)

pub wipe-requires : goal.wipe-requires
unfolding store_length
wipe-requires c = c.if-unfit.false

pub returns : goal.returns
unfolding clear_store store_length
returns c =
    rw (eq-eqb (length c.args.store.now) store_length c.if-unfit.false, clear_store) (ap (λ (t : List ℕ). (Ok Done, t)) c.wipe.ensures)
