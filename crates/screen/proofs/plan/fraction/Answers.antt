-- `fraction` sets the triangle at the middle against both. Assumes nothing.
use Prim.Native.Nat.{◌≤◌}
use native.Mathlib.Omega.{arith}
use borrow.Author.Rules.{rules}
use Rattle.screen.specs.Plan.{start, end, fraction_of}
use Rattle.screen.proofs.Lines.{area_most}
use Rattle.screen.proofs.plan.fraction.Goals as goal

pub overflow_add-den : goal.overflow_add-den
overflow_add-den c =
    let w = c.args.w in
    let h = c.requires in
    let here : c.area-num.result ≤ 844424930131968 = rw (c.area-num.ensures, c.turn.ensures, c.ends.ensures) (area_most (start w) (end w) c.args.p h.2.from h.2.to h.0) in
    let there : c.area-rest.result ≤ 844424930131968 = rw (c.area-rest.ensures, c.turn-2.ensures, c.ends.ensures) (area_most (start w) (end w) c.args.r h.2.from h.2.to h.1) in
    record { fits = omega arith }

pub returns : goal.returns
unfolding fraction_of
returns c = search rules
