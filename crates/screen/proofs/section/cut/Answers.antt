-- `cut` takes the two roots, and parts the one in the plan at the wall. Assumes nothing.
use Prim.Native.Nat.{◌*◌, ◌≤◌}
use native.Mathlib.Omega.{arith}
use borrow.Author.Rules.{rules}
use Rattle.screen.specs.Section.{section_of}
use Rattle.screen.proofs.Bounds.{times}
use Rattle.screen.proofs.Heights.{root_most}
use Rattle.screen.proofs.section.cut.Goals as goal

pub overflow_mul-a : goal.overflow_mul-a
overflow_mul-a c =
    let e = c.requires.0 in
    let m : c.roots-s0.result.0 ≤ 2000000 = rw c.roots-s0.ensures (root_most (100 * c.args.q0) 2000000 (omega (arith, e.rises, e.near))) in
    record { fits = omega (arith, times c.args.f.num c.roots-s0.result.0 6710886400000 2000000 c.requires.2 m) }

pub returns : goal.returns
unfolding section_of
returns c = search rules
