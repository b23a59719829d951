-- `pairs` passes over the pairs of zeros.
-- Assumes nothing.
use mathlib.Core.Path.{refl}
use Prim.Native.Nat.{ℕ, ◌-◌, ◌/◌}
use native.Mathlib.Omega.{arith}
use lib.Count.{count_leading_zeros, leading_le}
use Rattle.root.proofs.Pairs.{pairs_is, room_one, zeros_room}
use Rattle.longhand.proofs.sheet.pairs.Goals as goal

pub overflow_sub-result : goal.overflow_sub-result
overflow_sub-result c = omega (arith, leading_le 64 c.args.q)

pub returns : goal.returns
returns c =
    let z : ℕ = count_leading_zeros 64 c.args.q / 2 in
    room_one c.args.q (32 - z) _ (zeros_room c.args.q z c.ranges.q.fits refl) (pairs_is c.args.q)
