-- `changed` gathers the walls of one slot after the other. Assumes nothing.
use lib.ListN.{set}
use Rattle.store.specs.Slots.{entry}
use Rattle.store.specs.Store.{book_of}
use Rattle.ledger.proofs.Laying.{Laying}
use Rattle.ledger.proofs.fences.changed.Given as goal

abbrev pub invariant-loop-i : goal.invariant-loop-i
invariant-loop-i l = Laying (set (book_of l.store).walls l.k (entry l.w)) l.room l.n l.i
