-- `hear` has room for one share more. Assumes nothing.
use mathlib.Core.Path.{sym, subst}
use Prim.Native.Nat.{◌+◌, ◌≤◌}
use native.Mathlib.Omega.{arith}
use borrow.Author.Tests.{le-leb}
use Rattle.road.specs.Reach.{pair_of}
use Rattle.road.proofs.Pairs.{pair_bounded, heard_most}
use Rattle.level.specs.Level.{top}
use Rattle.ledger.specs.Ledger.{Ready}
use Rattle.afresh.proofs.hear.Goals as goal

pub plus-sums-requires : goal.plus-sums-requires
plus-sums-requires c =
    let r = subst Ready c.in-Some.is c.requires in
    let x = c.in-Some.x in
    let h = c.in-Ok.shares in
    let k = heard_most (pair_of c.args.walls.now) (pair_bounded c.args.walls.now) c.args.from.now x.who h (sym c.in-Ok.ensures) in
    let d : x.sums.day + h.day ≤ top = omega (arith, r.day, k 0) in
    let e : x.sums.evening + h.evening ≤ top = omega (arith, r.evening, k 1) in
    let n : x.sums.night + h.night ≤ top = omega (arith, r.night, k 2) in
    rw (le-leb _ _ d, le-leb _ _ e, le-leb _ _ n)
