-- The bits at the front of some bytes do not depend on the bytes behind them.
-- Assumes nothing.
use Prim.Native.Nat.{ℕ, ◌+◌, ◌-◌, ◌*◌, ◌/◌, ◌%◌, ◌^◌, ◌≤◌}
use mathlib.Core.Path.{◌≡◌, sym, ap, ap₂, ◌∙◌}
use mathlib.Core.List.{List, ◌++◌}
use native.Mathlib.Omega.{arith}
use lib.ListN.{length, length-append}
use lib.Pow.{high, shr-shr}
use Rattle.layout.specs.Layout.{Bytes, num, bits}
use Rattle.layout.proofs.Numbers.{num_append, num_lt}

pub bits_own : (s t : List ℕ) (at n : ℕ) → Bytes t → at + n ≤ 8 * length s → bits at n (s ++ t) ≡ bits at n s
unfolding bits
bits_own s t at n b h =
    let behind = 8 * length t in
    let low = 8 * length s - (at + n) in
    let e : 8 * length (s ++ t) - (at + n) ≡ behind + low = omega (arith, length-append s t) in
    ap (λ (x : ℕ). x % 2 ^ n)
    (ap₂ (λ (x y : ℕ). x / 2 ^ y) (num_append s t) e
    ∙ sym (shr-shr (num s * 2 ^ behind + num t) behind low)
    ∙ ap (λ (x : ℕ). x / 2 ^ low) (high (num s) behind (num_lt t b)))
