-- `pace_of` works out what speed gives: speeds are brought into range, and a truck is no quieter than a car. Assumes nothing.
use mathlib.Core.Path.{◌≡◌, ap, ap₂, ◌∙◌}
use Prim.Native.Nat.{ℕ, ◌-◌}
use native.Mathlib.Omega.{arith}
use Rattle.level.specs.Level.{energy_of}
use Rattle.level.proofs.Laws.{energy_least}
use Rattle.road.specs.Emission.{car_speed, truck_speed, car_level, truck_level, truck_gain}
use Rattle.road.proofs.Bounds.{gain_small}
use Rattle.road.proofs.Fit.{fit_source}
use Rattle.emission.proofs.pace_of.Goals as goal

-- the two levels are those of the speeds in range
module _ (c : goal.After-truck_level-truck) where
  car_is : c.car_level-car.result ≡ car_level (car_speed c.args.s.car)
  car_is = c.car_level-car.ensures ∙ ap car_level c.car_speed.ensures

  truck_is : c.truck_level-truck.result ≡ truck_level (truck_speed c.args.s.truck)
  truck_is = c.truck_level-truck.ensures ∙ ap truck_level c.truck_speed.ensures

  gain_is : c.truck_level-truck.result - c.car_level-car.result ≡ truck_gain (car_speed c.args.s.car) (truck_speed c.args.s.truck)
  gain_is = ap₂ ◌-◌ truck_is car_is

pub overflow_sub-truck : goal.overflow_sub-truck
overflow_sub-truck c = omega (arith, car_is c, truck_is c, (fit_source c.args.s c.requires).louder)

pub energy-gain-requires : goal.energy-gain-requires
energy-gain-requires c =
    let v : ℕ = car_speed c.args.s.car in
    let u : ℕ = truck_speed c.args.s.truck in
    omega (arith, gain_is c, gain_small v u (omega arith) (omega arith) (omega arith))

pub overflow_sub-gain : goal.overflow_sub-gain
overflow_sub-gain c = omega (arith, c.energy-gain.ensures, energy_least (c.truck_level-truck.result - c.car_level-car.result))

pub returns : goal.returns
returns c =
    let gain = c.energy-gain.ensures ∙ ap energy_of (gain_is c.before) in
    λ i. record { car = car_is c.before i; gain = gain i - 1000000 }
