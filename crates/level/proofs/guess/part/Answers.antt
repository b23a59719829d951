-- `part` is no more than what it is a part of. Assumes nothing.
use Prim.Native.Nat.{ℕ, ◌*◌, ◌/◌, ◌^◌, ◌<◌, ◌≤◌}
use native.Mathlib.Nat.{mul-le-mul, mul-le-mul_left}
use native.Mathlib.Omega.{arith}
use Rattle.level.proofs.guess.part.Goals as goal

small : (a f : ℕ) → a ≤ 65536 → f ≤ 65536 → a * f < 2 ^ 64
small a f h l =
    let p : a * f ≤ 65536 * 65536 = mul-le-mul h l in
    omega arith

no_more : (a f : ℕ) → f ≤ 65536 → a * f / 65536 ≤ a
no_more a f l =
    let p : a * f ≤ a * 65536 = mul-le-mul_left a l in
    omega arith

pub overflow_mul-result : goal.overflow_mul-result
overflow_mul-result c = record { fits = small c.args.a c.args.f c.requires.0 c.requires.1 }

pub returns : goal.returns
returns c = no_more c.args.a c.args.f c.requires.1
