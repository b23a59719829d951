-- `seats_of` takes the seat of each. Assumes nothing.
use mathlib.Core.Path.{refl, sym}
use native.Mathlib.Omega.{arith}
use mathlib.Core.Option.{none}
use Rattle.ledger.specs.declared.Tally.{Tally}
use Rattle.ledger.specs.Ledger.{begun}
use Rattle.ledger.proofs.Mapped.{filled_none, filled_next}
use Rattle.afresh.proofs.seats_of.Goals as goal

pub loop-j-init : goal.loop-j-init
loop-j-init c = filled_none (λ (t : Tally). t.seat) (begun none) c.args.tallies.now _ (sym c.requires)

pub loop-j-preserved : goal.loop-j-preserved
loop-j-preserved c =
    filled_next (λ (t : Tally). t.seat) (begun none) c.args.tallies.now c.loop-j.seat-items c.loop-j.j _ (omega (arith, c.requires, c.loop-j-test.true)) refl c.loop-j.invariant
