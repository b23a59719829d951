-- `gather` adds up what the sources bring, from the lowest slot on. Assumes nothing.
use Rattle.road.specs.Reach.{pair_of}
use Rattle.road.proofs.Pairs.{pair_bounded}
use Rattle.store.specs.Store.{book_of}
use Rattle.ledger.proofs.Gathers.{Gathers}
use Rattle.ledger.proofs.gather.gather.Given as goal

abbrev pub invariant-loop-i : goal.invariant-loop-i
invariant-loop-i l = Gathers (pair_of l.walls) (pair_bounded l.walls) l.r (book_of l.store).sources l.sums l.i
