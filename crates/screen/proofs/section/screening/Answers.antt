-- `screening` takes nothing off where the edge is below the ray. Assumes nothing.
use mathlib.Core.Path.{sym, ap, ◌∙◌}
use native.Mathlib.Omega.{arith}
use Rattle.screen.specs.Section.{Dz}
use Rattle.screen.proofs.Heights.{through_most, z_most, screening_none, screening_some}
use Rattle.screen.proofs.section.screening.Goals as goal

pub returns-then-c-ray : goal.returns-then-c-ray
returns-then-c-ray c = sym (screening_none c.args.c (omega (arith, c.ray-ray.ensures, c.if-c-ray.true)))

pub overflow_add-ray : goal.overflow_add-ray
overflow_add-ray c = omega (arith, c.ray-ray.ensures, c.lift.ensures, through_most c.args.c c.requires)

pub taken_off-requires : goal.taken_off-requires
taken_off-requires c =
    let m = z_most c.args.c c.requires in
    (rw c.ways.ensures m.0, rw c.ways.ensures m.1)

pub returns : goal.returns
returns c =
    c.taken_off.ensures ∙ ap Dz c.ways.ensures
    ∙ sym (screening_some c.args.c (omega (arith, c.ray-ray.ensures, c.if-c-ray.false)))
