-- `speed` is equation 9, for a car's level and a truck's gain that have been worked out. Assumes nothing.
-- the trucks' part of the energy
use mathlib.Core.Path.{ap, ◌∙◌}
use Prim.Native.Nat.{ℕ, ◌+◌, ◌*◌, ◌≤◌, ◌<◌}
use native.Mathlib.Omega.{arith}
use Rattle.level.specs.Level.{lv_of}
use Rattle.road.specs.Term.{term}
use Rattle.road.specs.Limits.{all_trucks}
use Rattle.road.proofs.Bounds.{times, lv_small}
use Rattle.emission.proofs.speed.Goals as goal

part : (gain p : ℕ) → gain < 1000000000 → p ≤ all_trucks → gain * p ≤ 1000000000 * all_trucks
part gain p h l = times gain p 1000000000 all_trucks (omega arith) l

pub overflow_mul-more : goal.overflow_mul-more
overflow_mul-more c =
    omega (arith, part c.args.pace.gain c.from-trucks.result c.requires.1 (omega (arith, c.from-trucks.ensures, c.requires.2)))

pub overflow_add-more : goal.overflow_add-more
overflow_add-more c =
    omega (arith, part c.args.pace.gain c.from-trucks.result c.requires.1 (omega (arith, c.from-trucks.ensures, c.requires.2)))

pub lv-requires : goal.lv-requires
lv-requires c =
    (omega arith, omega (arith, part c.args.pace.gain c.from-trucks.result c.requires.1 (omega (arith, c.from-trucks.ensures, c.requires.2))))

pub overflow_add-up : goal.overflow_add-up
overflow_add-up c =
    let g = part c.args.pace.gain c.from-trucks.result c.requires.1 (omega (arith, c.from-trucks.ensures, c.requires.2)) in
    omega (arith, c.lv.ensures, lv_small (1000000000 + c.args.pace.gain * c.from-trucks.result) (omega arith) (omega (arith, g)), c.requires.0)

pub overflow_add-down : goal.overflow_add-down
overflow_add-down c =
    omega (arith, c.lv-2.ensures, lv_small (100000 + 823 * c.from-trucks.result) (omega arith) (omega (arith, c.from-trucks.ensures, c.requires.2)))

pub overflow_add-down-2 : goal.overflow_add-down-2
overflow_add-down-2 c =
    omega (arith, c.lv-2.ensures, lv_small (100000 + 823 * c.from-trucks.result) (omega arith) (omega (arith, c.from-trucks.ensures, c.requires.2)))

pub returns : goal.returns
returns c =
    let up = c.lv.ensures ∙ ap (λ (n : ℕ). lv_of (1000000000 + c.args.pace.gain * n)) c.from-trucks.ensures in
    let down = c.lv-2.ensures ∙ ap (λ (n : ℕ). lv_of (100000 + 823 * n)) c.from-trucks.ensures in
    λ i. term (c.args.pace.car + up i) (3730 + down i + 4000)
