-- `lift` multiplies and divides in an order in which nothing is too large. Assumes nothing.
use mathlib.Core.Path.{ap}
use Prim.Native.Nat.{ℕ, ◌*◌, ◌/◌, ◌≤◌, ◌<◌}
use native.Mathlib.Omega.{arith}
use native.Mathlib.Nat.{mul-pos}
use Rattle.screen.specs.declared.section.Section.{Section}
use Rattle.screen.specs.Section.{lift}
use Rattle.screen.proofs.Bounds.{times}
use Rattle.screen.proofs.Heights.{gamma_is}
use Rattle.screen.proofs.section.lift.Goals as goal

abbrev flat_by : Section → ℕ → ℕ
flat_by c g = c.a * c.b * c.s / (2 * g * c.s0)

pub overflow_mul-bottom : goal.overflow_mul-bottom
overflow_mul-bottom c = omega (arith, c.gamma.ensures, gamma_is c.args.c.s c.requires.space)

pub overflow_mul-bottom-2 : goal.overflow_mul-bottom-2
overflow_mul-bottom-2 c =
    let g : 2 * c.gamma.result ≤ 32000000 = omega (arith, c.gamma.ensures, gamma_is c.args.c.s c.requires.space) in
    omega (arith, times (2 * c.gamma.result) c.args.c.s0 32000000 2000000 g c.requires.plan)

pub nonzero_div-flat : goal.nonzero_div-flat
nonzero_div-flat c =
    let g : 0 < 2 * c.gamma.result = omega (arith, c.gamma.ensures, gamma_is c.args.c.s c.requires.space) in
    mul-pos g c.requires.some

pub returns : goal.returns
unfolding lift
returns c =
    ap (λ (g : ℕ). flat_by c.args.c g * c.args.c.s / c.args.c.s0) c.gamma.ensures
