-- `car_level` is a car's level: the cube of a speed up to 130 keeps every number small. Assumes nothing.
use mathlib.Core.Path.{ap}
use Prim.Native.Nat.{ℕ, ◌+◌, ◌-◌}
use native.Mathlib.Omega.{arith}
use Rattle.road.specs.Emission.{car_level}
use Rattle.road.proofs.Bounds.{cube}
use Rattle.road.proofs.Bounds as bounds
use Rattle.emission.proofs.car_level.Goals as goal

pub overflow_mul-square : goal.overflow_mul-square
overflow_mul-square c = omega (arith, (cube c.args.v c.requires).two)

pub overflow_mul-cube : goal.overflow_mul-cube
overflow_mul-cube c = omega (arith, (cube c.args.v c.requires).three)

pub overflow_mul-cube-2 : goal.overflow_mul-cube-2
overflow_mul-cube-2 c = omega (arith, (cube c.args.v c.requires).three)

pub overflow_add-cube : goal.overflow_add-cube
overflow_add-cube c = omega (arith, (cube c.args.v c.requires).three)

pub lv-requires : goal.lv-requires
lv-requires c = (omega arith, omega (arith, (cube c.args.v c.requires).three))

pub overflow_add-result : goal.overflow_add-result
overflow_add-result c = omega (arith, c.lv.ensures, (bounds.car_level_lem c.args.v c.requires).most)

pub overflow_sub-result : goal.overflow_sub-result
overflow_sub-result c = omega (arith, c.lv.ensures, (bounds.car_level_lem c.args.v c.requires).reached)

pub returns : goal.returns
unfolding car_level
returns c = ap (λ (n : ℕ). 2770 + n - 6000) c.lv.ensures
