-- `highest` passes over the pairs of zeros. Assumes nothing.
use mathlib.Core.Path.{refl, ap, ◌∙◌}
use Prim.Native.Nat.{ℕ, ◌-◌, ◌/◌, ◌^◌}
use native.Mathlib.Omega.{arith}
use lib.Count.{count_leading_zeros, leading_le}
use Rattle.root.proofs.Pairs.{pairs_is, room_one, zeros_room, zeros_place}
use Rattle.root.proofs.highest.Goals as goal

pub returns : goal.returns
returns c =
    let z : ℕ = count_leading_zeros 64 c.args.q / 2 in
    zeros_place z (omega (arith, leading_le 64 c.args.q))
    ∙ ap (λ (k : ℕ). 4 ^ k / 4) (room_one c.args.q (32 - z) _ (zeros_room c.args.q z c.ranges.q.fits refl) (pairs_is c.args.q))
