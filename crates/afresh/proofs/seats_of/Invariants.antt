-- `seats_of` takes the seat of each. Assumes nothing.
use mathlib.Core.Option.{none}
use Rattle.ledger.specs.declared.Tally.{Tally}
use Rattle.ledger.specs.Ledger.{begun}
use Rattle.ledger.proofs.Mapped.{Filled}
use Rattle.afresh.proofs.seats_of.Given as goal

abbrev pub invariant-loop-j : goal.invariant-loop-j
invariant-loop-j l = Filled (λ (t : Tally). t.seat) (begun none) l.tallies l.seat-items l.j
