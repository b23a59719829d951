-- `go_round` asks every receiver from the lowest slot on and keeps the seats as they would be. Assumes nothing.
use Rattle.road.specs.Reach.{pair_of}
use Rattle.store.specs.Store.{book_of}
use Rattle.store.specs.Slots.{entry}
use Rattle.ledger.specs.Changes.{exchange}
use Rattle.ledger.proofs.Rounds.{Rounding}
use Rattle.ledger.proofs.round.go_round.Given as goal

abbrev pub invariant-loop-j : goal.invariant-loop-j
invariant-loop-j l =
    Rounding (exchange (pair_of l.walls) (entry l.goes) (entry l.comes)) (book_of l.store).receivers l.late l.seat-items l.j
