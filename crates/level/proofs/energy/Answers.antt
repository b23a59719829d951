-- `energy` is E: an entry of Z below 10^7 times a power of ten up to 10^12, which 64 bits hold. Assumes nothing.
-- no energy of a level below 13000 is more than 10^19
use mathlib.Core.Path.{◌≡◌, ap₂}
use Prim.Native.Nat.{ℕ, ◌*◌, ◌/◌, ◌%◌, ◌^◌, ◌<◌, ◌≤◌}
use native.Mathlib.Nat.{mul-le-mul, pow-le-pow_right}
use native.Mathlib.Omega.{arith}
use lib.Dec.{lit<}
use Rattle.level.specs.Table.{Z}
use Rattle.level.specs.Level.{energy_of}
use Rattle.level.proofs.Rule.{Z_most}
use Rattle.level.proofs.energy.Goals as goal

small : (z t k d : ℕ) → k < 1000 → d ≤ 12 → z ≡ Z k → t ≡ 10 ^ d → z * t < 2 ^ 64
small z t k d h l e f =
    let p : 10 ^ d ≤ 10 ^ 12 = pow-le-pow_right (lit< tt) l in
    let a : z ≤ 10000000 = omega (arith, Z_most k h) in
    let b : t ≤ 10 ^ 12 = omega arith in
    let q : z * t ≤ 10000000 * 10 ^ 12 = mul-le-mul a b in
    omega arith

pub overflow_mul-result : goal.overflow_mul-result
overflow_mul-result c =
    let l : ℕ = c.args.level in
    record { fits = small c.step.result c.tens.result (l % 1000) (l / 1000) (omega arith) (omega arith) c.step.ensures c.tens.ensures }

pub returns : goal.returns
unfolding energy_of
returns c = ap₂ ◌*◌ c.step.ensures c.tens.ensures
