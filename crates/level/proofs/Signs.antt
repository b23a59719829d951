-- The energy of a level of either sign, and what callers may use of it. It is worked out by the tens of dB that are begun below zero; by
-- any more of them it comes out the same, and so it never falls as the level rises. Assumes nothing.
use mathlib.Core.Path.{◌≡◌, sym, ap, ap₂, ◌∙◌}
use Prim.Native.Nat.{ℕ, ◌+◌, ◌-◌, ◌*◌, ◌/◌, ◌^◌, ◌<◌, ◌≤◌}
use native.Mathlib.Nat.{le_trans, pow-le-pow_right, div-one, div-div-eq-div-mul, div-eq_of_lt, div-mul-le_self, le-div_iff_mul-le, mul-div-mul_right}
use native.Mathlib.Omega.{arith}
use lib.Dec.{lit<}
use lib.Pow.{pow-add}
use Rattle.level.specs.Table.{Z}
use Rattle.level.specs.Level.{energy_of, tens_below, energy_at}
use Rattle.level.proofs.Rule.{Z_most}
use Rattle.level.proofs.Laws.{tens, energy_at_lem, energy_tens, energy_rises, energy_decade}

-- ---- the tens

-- they are enough to raise the level to zero or above
begun : (up down : ℕ) → down ≤ up + 1000 * tens_below up down
unfolding tens_below
begun up down = omega arith

-- fewer are not
fewest : (n up down : ℕ) → down ≤ up + 1000 * n → tens_below up down ≤ n
unfolding tens_below
fewest n up down h = omega arith

-- below zero they raise it to less than ten dB
short : (up down : ℕ) → up < down → up + 1000 * tens_below up down - down < 1000
unfolding tens_below
short up down h = omega arith

many : (up down : ℕ) → up + 6000 < down → 7 ≤ tens_below up down
unfolding tens_below
many up down h = omega arith

-- ---- the energy

-- by n tens that are enough
pub energy_by : (n up down : ℕ) → down ≤ up + 1000 * n → energy_at up down ≡ energy_of (up + 1000 * n - down) / 10 ^ n
unfolding energy_at
energy_by n up down h =
    let d : ℕ = tens_below up down in
    let l : ℕ = up + 1000 * tens_below up down - down in
    let more : ℕ = n - tens_below up down in
    let split : n ≡ tens_below up down + (n - tens_below up down) = omega (arith, fewest n up down h) in
    let raised : up + 1000 * n - down ≡ up + 1000 * tens_below up down - down + 1000 * (n - tens_below up down) = omega (arith, fewest n up down h, begun up down) in
    let top : energy_of (up + 1000 * n - down) ≡ energy_of l * 10 ^ more = ap energy_of raised ∙ energy_tens l more in
    let bottom : 10 ^ n ≡ 10 ^ d * 10 ^ more = ap (λ (m : ℕ). 10 ^ m) split ∙ pow-add 10 d more in
    sym (ap₂ ◌/◌ top bottom ∙ mul-div-mul_right (energy_of l) (10 ^ d) (tens more))

-- from zero on it is E
pub energy_from_zero : (up down : ℕ) → down ≤ up → energy_at up down ≡ energy_of (up - down)
energy_from_zero up down h =
    let e : up + 1000 * 0 - down ≡ up - down = omega arith in
    energy_by 0 up down (omega arith) ∙ div-one (energy_of (up + 1000 * 0 - down)) ∙ ap energy_of e

-- below zero it is an entry of the table, divided by the tens
pub energy_below_zero : (up down : ℕ) → up < down → energy_at up down ≡ Z (up + 1000 * tens_below up down - down) / 10 ^ tens_below up down
energy_below_zero up down h =
    let l : ℕ = up + 1000 * tens_below up down - down in
    let e : l ≡ 1000 * 0 + l = omega arith in
    let f : energy_of l ≡ Z l * 10 ^ 0 = ap energy_of e ∙ energy_at_lem 0 l (short up down h) in
    let g : energy_of l ≡ Z l = omega arith in
    energy_by (tens_below up down) up down (begun up down) ∙ ap (λ (n : ℕ). n / 10 ^ tens_below up down) g

-- ten dB lower it is a tenth, down
pub energy_tenth : (up down : ℕ) → energy_at up (1000 + down) ≡ energy_at up down / 10
energy_tenth up down =
    let n : ℕ = tens_below up down in
    let e : up + 1000 * (n + 1) - (1000 + down) ≡ up + 1000 * n - down = omega arith in
    energy_by (n + 1) up (1000 + down) (omega (arith, begun up down))
    ∙ ap₂ (λ (l m : ℕ). energy_of l / m) e (pow-add 10 n 1)
    ∙ sym (div-div-eq-div-mul (energy_of (up + 1000 * n - down)) (10 ^ n) 10)
    ∙ ap (λ (m : ℕ). m / 10) (sym (energy_by n up down (begun up down)))

-- from -60.01 dB on it is nothing
pub energy_far_below : (up down : ℕ) → up + 6000 < down → energy_at up down ≡ 0
energy_far_below up down h =
    let l : up < down = omega arith in
    let p : 10 ^ 7 ≤ 10 ^ tens_below up down = pow-le-pow_right (lit< tt) (many up down h) in
    let z : Z (up + 1000 * tens_below up down - down) < 10000000 = Z_most (up + 1000 * tens_below up down - down) (short up down l) in
    energy_below_zero up down l ∙ div-eq_of_lt (omega arith)

-- what a level lies below zero settles it
pub energy_apart : (up down : ℕ) → up ≤ down → energy_at up down ≡ energy_at 0 (down - up)
energy_apart up down h =
    let n : ℕ = tens_below up down in
    let e : up + 1000 * tens_below up down - down ≡ 0 + 1000 * tens_below up down - (down - up) = omega arith in
    energy_by n up down (begun up down) ∙ ap (λ (l : ℕ). energy_of l / 10 ^ n) e ∙ sym (energy_by n 0 (down - up) (omega (arith, begun up down)))

-- as the code works it out
pub energy_lower : (below : ℕ) → 0 < below → energy_at 0 below ≡ Z (1000 * ((below + 999) / 1000) - below) / 10 ^ ((below + 999) / 1000)
unfolding tens_below
energy_lower below h =
    let d : ℕ = (below + 999) / 1000 in
    let e : tens_below 0 below ≡ d = omega arith in
    let f : 0 + 1000 * d - below ≡ 1000 * d - below = omega arith in
    energy_below_zero 0 below h ∙ ap (λ (n : ℕ). Z (0 + 1000 * n - below) / 10 ^ n) e ∙ ap (λ (l : ℕ). Z l / 10 ^ d) f

-- it never falls as the level rises
div_rises : (x y k : ℕ) → 0 < k → x ≤ y → x / k ≤ y / k
div_rises x y k h l = (le-div_iff_mul-le {k = k} {x = x / k} {y = y} h).1 (le_trans (div-mul-le_self x k) l)

pub energy_never_falls : (up down more less : ℕ) → up + less ≤ more + down → energy_at up down ≤ energy_at more less
energy_never_falls up down more less h =
    let n : ℕ = tens_below up down + tens_below more less in
    let a : energy_at up down ≡ energy_of (up + 1000 * n - down) / 10 ^ n = energy_by n up down (omega (arith, begun up down)) in
    let b : energy_at more less ≡ energy_of (more + 1000 * n - less) / 10 ^ n = energy_by n more less (omega (arith, begun more less)) in
    let r : energy_of (up + 1000 * n - down) ≤ energy_of (more + 1000 * n - less) = energy_rises (up + 1000 * n - down) (more + 1000 * n - less) (omega (arith, begun up down, begun more less)) in
    rw (a, b) (div_rises (energy_of (up + 1000 * n - down)) (energy_of (more + 1000 * n - less)) (10 ^ n) (tens n) r)

-- up to 90 dB it is at most 10^15
pub energy_within : (up down : ℕ) → up ≤ 9000 + down → energy_at up down ≤ 10 ^ 15
energy_within up down h =
    let e : energy_at 9000 0 ≡ 10 ^ 15 = energy_from_zero 9000 0 (omega arith) ∙ energy_decade 9 in
    omega (arith, energy_never_falls up down 9000 0 (omega arith))
