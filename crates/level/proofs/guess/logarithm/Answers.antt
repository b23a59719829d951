-- `logarithm` shifts by less than 64 and stays small: its parts are parts of constants. Assumes nothing.
-- a number that is not 0 has fewer than 64 zeros in front
use Prim.Native.Nat.{ℕ, ◌^◌, ◌<◌, ◌≤◌}
use native.Mathlib.Omega.{arith}
use lib.Count.{count_leading_zeros, leading_top}
use Rattle.level.proofs.guess.logarithm.Goals as goal

few : (n : ℕ) → 1 ≤ n → n < 2 ^ 64 → count_leading_zeros 64 n ≤ 63
few n h l = omega (arith, (leading_top 64 n h l).1)

pub overflow_sub-whole : goal.overflow_sub-whole
overflow_sub-whole c = omega (arith, few c.args.n c.requires c.ranges.n.fits)

pub overflow_cast-f : goal.overflow_cast-f
overflow_cast-f c = omega (arith, few c.args.n c.requires c.ranges.n.fits)

pub overflow_shl-f : goal.overflow_shl-f
overflow_shl-f c = omega (arith, few c.args.n c.requires c.ranges.n.fits)
