-- `truck_level` is a truck's level: the fifth power of a speed up to 80 keeps every number small. Assumes nothing.
use mathlib.Core.Path.{ap}
use Prim.Native.Nat.{ℕ, ◌+◌, ◌/◌}
use native.Mathlib.Omega.{arith}
use Rattle.road.specs.Emission.{truck_level}
use Rattle.road.proofs.Bounds.{fifth}
use Rattle.road.proofs.Bounds as bounds
use Rattle.emission.proofs.truck_level.Goals as goal

pub overflow_mul-square : goal.overflow_mul-square
overflow_mul-square c = omega (arith, (fifth c.args.u c.requires.0 c.requires.1).two)

pub overflow_mul-cube : goal.overflow_mul-cube
overflow_mul-cube c = omega (arith, (fifth c.args.u c.requires.0 c.requires.1).three)

pub overflow_mul-fourth : goal.overflow_mul-fourth
overflow_mul-fourth c = omega (arith, (fifth c.args.u c.requires.0 c.requires.1).four)

pub overflow_mul-fifth : goal.overflow_mul-fifth
overflow_mul-fifth c = omega (arith, (fifth c.args.u c.requires.0 c.requires.1).five)

pub lv-requires : goal.lv-requires
lv-requires c = let b = fifth c.args.u c.requires.0 c.requires.1 in (b.some, omega (arith, b.five))

pub overflow_add-result : goal.overflow_add-result
overflow_add-result c = omega (arith, c.lv.ensures, bounds.truck_level_lem c.args.u c.requires.0 c.requires.1)

pub returns : goal.returns
unfolding truck_level
returns c = ap (λ (n : ℕ). 2310 + n / 4) c.lv.ensures
