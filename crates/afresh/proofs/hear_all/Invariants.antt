-- `hear_all` hears the source at every receiver. Assumes nothing.
use mathlib.Core.Path.{◌≡◌}
use Rattle.road.specs.Reach.{pair_of}
use Rattle.ledger.specs.Ledger.{heard_from}
use Rattle.ledger.proofs.Mapped.{turned}
use Rattle.afresh.proofs.hear_all.Given as goal

abbrev pub invariant-loop-t : goal.invariant-loop-t
invariant-loop-t l = l.tallies ≡ turned (heard_from (pair_of l.walls) l.from) l.initial.tallies l.t-index
