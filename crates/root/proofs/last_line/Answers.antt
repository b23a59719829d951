-- `last_line` goes from place to place, and at each stands the line of the bits brought down. Assumes nothing.
use native.Mathlib.Nat.{le_refl}
use native.Mathlib.Omega.{arith}
use Rattle.root.proofs.Steps.{stands_first, stands_next, stands_fits, stands_last}
use Rattle.root.proofs.last_line.Goals as goal

pub loop-place-init : goal.loop-place-init
loop-place-init c = stands_first c.args.q c.args.q _ (le_refl c.args.q) c.ranges.q.fits c.highest-place.ensures

pub step-line-requires : goal.step-line-requires
step-line-requires c = stands_fits _ _ _ (omega (arith, c.loop-place-test.true)) c.loop-place.invariant c.ranges.q.fits

pub loop-place-preserved : goal.loop-place-preserved
loop-place-preserved c = rw c.step-line.ensures (stands_next _ _ _ (omega (arith, c.loop-place-test.true)) c.loop-place.invariant)

pub returns : goal.returns
returns c = stands_last _ _ _ (omega (arith, c.loop-place-test.false)) c.loop-place.invariant
