-- `write_seats` writes whoever is in a seat, each into its slot. Assumes nothing.
use lib.ListN.{take}
use Rattle.store.specs.Store.{book, book_of}
use Rattle.store.proofs.Laws.{Holds}
use Rattle.ledger.specs.Ledger.{seated}
use Rattle.ledger.proofs.round.write_seats.Given as goal

abbrev pub invariant-loop-k : goal.invariant-loop-k
invariant-loop-k l =
    Holds l.store (book (book_of l.initial.store).sources (seated (take l.k l.seats) (book_of l.initial.store).receivers) (book_of l.initial.store).walls)
