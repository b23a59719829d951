-- Bounds of products and of roots. Assumes nothing.
use mathlib.Core.Path.{◌≡◌}
use Prim.Native.Nat.{ℕ, ◌+◌, ◌*◌, ◌≤◌}
use native.Mathlib.Nat.{mul-le-mul, add-mul}
use native.Mathlib.Decide.{dec_le}
use native.Mathlib.Omega.{arith}

pub times : (a b c d : ℕ) → a ≤ c → b ≤ d → a * b ≤ c * d
times a b c d h l = mul-le-mul h l

-- a number whose square is at most that of m is at most m
pub under_root : (n m : ℕ) → n * n ≤ m * m → n ≤ m
under_root n m h = go (dec_le n m)
  where
    more : (m + 1) * (m + 1) ≡ m * (m + 1) + 1 * (m + 1)
    more = add-mul m 1 (m + 1)

    go : Dec (n ≤ m) → n ≤ m
    go (yes l) = l
    go (no l) = absurd (omega (arith, times (m + 1) (m + 1) n n (omega arith) (omega arith), more, times m m m (m + 1) (omega arith) (omega arith)))
