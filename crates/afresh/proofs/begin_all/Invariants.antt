-- `begin_all` begins with every seat. Assumes nothing.
use mathlib.Core.Option.{none}
use Rattle.store.specs.Store.{book_of}
use Rattle.ledger.specs.Ledger.{begun}
use Rattle.ledger.proofs.Mapped.{Filled}
use Rattle.afresh.proofs.begin_all.Given as goal

abbrev pub invariant-loop-j : goal.invariant-loop-j
invariant-loop-j l = Filled begun none (book_of l.store).receivers l.t-items l.j
