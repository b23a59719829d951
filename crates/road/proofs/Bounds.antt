-- Bounds of products and of levels that the code works with. Assumes nothing.
use mathlib.Core.Path.{◌≡◌}
use Prim.Native.Nat.{ℕ, ◌+◌, ◌*◌, ◌≤◌, ◌<◌}
use native.Mathlib.Nat.{mul-le-mul, mul-pos}
use native.Mathlib.Omega.{arith}
use Rattle.level.specs.Level.{lv_of, energy_of}
use Rattle.level.proofs.Laws.{lv_least, lv_most, energy_decade, energy_rises}
use Rattle.road.specs.Emission.{car_level, truck_level, truck_gain}

pub times : (a b c d : ℕ) → a ≤ c → b ≤ d → a * b ≤ c * d
times a b c d h l = mul-le-mul h l

-- lv of all that 64 bits hold
pub lv_small : (n : ℕ) → 1 ≤ n → n ≤ 18446744073709 → lv_of n < 14000
lv_small n h l = lv_most 14 n h (omega arith)

pub lv_told : (r n : ℕ) → r ≡ lv_of n → 1 ≤ n → n ≤ 18446744073709 → r < 14000
lv_told r n e h l = omega (arith, lv_small n h l)

pub record Cube (v : ℕ) : Type 0 where
  pub two : v * v ≤ 16900
  pub three : v * v * v ≤ 2197000

pub cube : (v : ℕ) → v ≤ 130 → Cube v
cube v h =
    let a : v * v ≤ 130 * 130 = times v v 130 130 h h in
    record { two = a; three = times (v * v) v 16900 130 a h }

pub record Fifth (u : ℕ) : Type 0 where
  pub two : u * u ≤ 6400
  pub three : u * u * u ≤ 512000
  pub four : u * u * u * u ≤ 40960000
  pub five : u * u * u * u * u ≤ 3276800000
  pub some : 0 < u * u * u * u * u

pub fifth : (u : ℕ) → 1 ≤ u → u ≤ 80 → Fifth u
fifth u l h =
    let a : u * u ≤ 6400 = times u u 80 80 h h in
    let b : u * u * u ≤ 512000 = times (u * u) u 6400 80 a h in
    let d : u * u * u * u ≤ 40960000 = times (u * u * u) u 512000 80 b h in
    record {
      two = a;
      three = b;
      four = d;
      five = times (u * u * u * u) u 40960000 80 d h;
      some = mul-pos (mul-pos (mul-pos (mul-pos l l) l) l) l;
    }

-- the level of a car, of a truck, and of what a truck is above a car
pub record CarLevel (v : ℕ) : Type 0 where
  pub reached : 6000 ≤ lv_of (1000000 + 8 * (v * v * v))
  pub most : lv_of (1000000 + 8 * (v * v * v)) < 8000

pub car_level_lem : (v : ℕ) → v ≤ 130 → CarLevel v
car_level_lem v h =
    let b = cube v h in
    record { reached = lv_least 6 (1000000 + 8 * (v * v * v)) (omega arith); most = lv_most 8 (1000000 + 8 * (v * v * v)) (omega arith) (omega (arith, b.three)) }

pub truck_level_lem : (u : ℕ) → 1 ≤ u → u ≤ 80 → lv_of (u * u * u * u * u) < 10000
truck_level_lem u l h =
    let b = fifth u l h in
    lv_most 10 (u * u * u * u * u) b.some (omega (arith, b.five))

pub car_most : (v : ℕ) → v ≤ 130 → car_level v ≤ 5000
unfolding car_level
car_most v h = omega (arith, (car_level_lem v h).most)

pub gain_small : (v u : ℕ) → v ≤ 130 → 1 ≤ u → u ≤ 80 → truck_gain v u < 3000
unfolding car_level truck_level
gain_small v u h l m = omega (arith, (car_level_lem v h).reached, truck_level_lem u l m)

pub gain_energy : (d : ℕ) → d < 3000 → energy_of d ≤ 1000000000
gain_energy d h = omega (arith, energy_rises d 3000 (omega arith), energy_decade 3)
