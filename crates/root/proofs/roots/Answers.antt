-- `roots` goes from place to place with both numbers, and at each stand their lines. Assumes nothing.
use native.Mathlib.Omega.{arith}
use Rattle.root.specs.Root.{root_of}
use Rattle.root.proofs.Steps.{stands_first, stands_next, stands_fits, stands_last}
use Rattle.root.proofs.roots.Goals as goal

pub loop-at-init : goal.loop-at-init
loop-at-init c = (stands_first c.args.p _ _ (omega arith) (omega (arith, c.ranges.p.fits, c.ranges.q.fits)) c.highest-at.ensures, stands_first c.args.q _ _ (omega arith) (omega (arith, c.ranges.p.fits, c.ranges.q.fits)) c.highest-at.ensures)

pub step-first-requires : goal.step-first-requires
step-first-requires c = stands_fits _ _ _ c.loop-at-test.true c.loop-at.invariant.0 c.ranges.p.fits

pub step-second-requires : goal.step-second-requires
step-second-requires c = stands_fits _ _ _ c.loop-at-test.true c.loop-at.invariant.1 c.ranges.q.fits

pub loop-at-preserved : goal.loop-at-preserved
loop-at-preserved c =
    rw (c.step-first.ensures, c.step-second.ensures) (stands_next _ _ _ c.loop-at-test.true c.loop-at.invariant.0, stands_next _ _ _ c.loop-at-test.true c.loop-at.invariant.1)

pub returns : goal.returns
unfolding root_of
returns c =
    let first = stands_last _ _ _ c.loop-at-test.false c.loop-at.invariant.0 in
    let second = stands_last _ _ _ c.loop-at-test.false c.loop-at.invariant.1 in
    λ i. ((first i).root, (second i).root)
