-- How many pairs of bits a number has from the highest that is not zero, and the place of that pair. Assumes nothing.
use mathlib.Core.Path.{◌≡◌, refl, sym, ap, ◌∙◌}
use Prim.Native.Nat.{ℕ, zero, suc, ◌+◌, ◌-◌, ◌*◌, ◌/◌, ◌^◌, ◌≤◌, ◌<◌}
use native.Mathlib.Nat.{le_antisymm, le_trans, le_of_eq, pow-suc, pow-le-pow_right, mul-mul-mul_comm, div-div-eq-div-mul, mul-div_cancel, one-le-pow}
use native.Mathlib.Decide.{dec_le, ℕ_discrete}
use native.Mathlib.Omega.{arith}
use borrow.Author.Tests.{ne_eqb}
use lib.Count.{count_leading_zeros, leading_length}
use lib.Pow.{pow-add, pow_mono}
use Rattle.root.specs.Root.{pairs_in, pairs_of}
use Rattle.root.proofs.Laws.{enough}

pairs_zero : (n : ℕ) → pairs_in n 0 ≡ 0
unfolding pairs_in
pairs_zero zero = refl
pairs_zero (suc n) = refl

pairs_more : (n q : ℕ) → (q ≡ 0 → ⊥) → pairs_in (suc n) q ≡ suc (pairs_in n (q / 4))
unfolding pairs_in
pairs_more n q h = rw (ne_eqb q 0 h, pairs_in)

-- in so many pairs q has room, and the highest of them is not zero
pub record Room (q k : ℕ) : Type 0 where
  pub above : q < 4 ^ k
  pub least : 4 ^ k / 4 ≤ q

room_none : Room 0 0
room_none = record { above = omega arith; least = omega arith }

room_more : (q k : ℕ) → (q ≡ 0 → ⊥) → Room (q / 4) k → Room q (suc k)
room_more q zero e h = let f : 0 < q = pos q e in record { above = omega (arith, h.above); least = omega (arith, f) }
  where
    pos : (q : ℕ) → (q ≡ 0 → ⊥) → 0 < q
    pos zero e = absurd (e refl)
    pos (suc q) e = omega arith
room_more q (suc k) e h =
    let p : 4 ^ suc k ≡ 4 ^ k * 4 = pow-suc 4 k in
    let p2 : 4 ^ suc (suc k) ≡ 4 ^ suc k * 4 = pow-suc 4 (suc k) in
    record { above = omega (arith, p, p2, h.above); least = omega (arith, p, p2, h.least) }

pairs_room : (n q : ℕ) → q < 4 ^ n → Room q (pairs_in n q)
pairs_room zero q h = let e : q ≡ 0 = omega arith in rw (e, pairs_zero 0) room_none
pairs_room (suc n) q h = go (ℕ_discrete q 0) (pairs_room n (q / 4))
  where
    go : Dec (q ≡ 0) → (q / 4 < 4 ^ n → Room (q / 4) (pairs_in n (q / 4))) → Room q (pairs_in (suc n) q)
    go (yes e) f = rw (e, pairs_zero (suc n)) room_none
    go (no e) f =
        let p : 4 ^ suc n ≡ 4 ^ n * 4 = pow-suc 4 n in
        rw (pairs_more n q e) (room_more q (pairs_in n (q / 4)) e (f (omega arith)))

pub pairs_is : (q : ℕ) → Room q (pairs_of q)
pairs_is q = pairs_room q q (enough q)

-- there is only one such number
pub room_le : (q j k : ℕ) → 4 ^ j / 4 ≤ q → q < 4 ^ k → j ≤ k
room_le q j k a b = go (dec_le j k)
  where
    go : Dec (j ≤ k) → j ≤ k
    go (yes h) = h
    go (no h) =
        let m : 4 ^ suc k ≤ 4 ^ j = pow-le-pow_right (omega arith) (omega arith) in
        let p : 4 ^ suc k ≡ 4 ^ k * 4 = pow-suc 4 k in
        absurd (omega (arith, m, p, a, b))

pub room_one : (q j k : ℕ) → Room q j → Room q k → j ≡ k
room_one q j k a b = le_antisymm (room_le q j k a.least b.above) (room_le q k j b.least a.above)

-- ---- the place of the highest

pub next_place : (k : ℕ) → 4 ^ suc k / 4 ≡ 4 ^ k
next_place k = let p : 4 ^ suc k ≡ 4 ^ k * 4 = pow-suc 4 k in omega arith

pub four_square : (k : ℕ) → 4 ^ k ≡ 2 ^ k * 2 ^ k
four_square zero = refl
four_square (suc k) =
    pow-suc 4 k
    ∙ ap (◌* 4) (four_square k)
    ∙ mul-mul-mul_comm (2 ^ k) (2 ^ k) 2 2
    ∙ (λ i. sym (pow-suc 2 k) i * sym (pow-suc 2 k) i)

four_twice : (k : ℕ) → 4 ^ k ≡ 2 ^ (k + k)
four_twice k = four_square k ∙ sym (pow-add 2 k k)

-- half of the zeros above are pairs that q does not have
pub zeros_room : (q z : ℕ) → q < 2 ^ 64 → z ≡ count_leading_zeros 64 q / 2 → Room q (32 - z)
zeros_room q z h e =
    let l = leading_length 64 q h in
    let k : ℕ = 32 - z in
    let low : l.0 ≤ k + k = omega (arith, e, l.1) in
    let high : k + k ≤ suc l.0 = omega (arith, e, l.1) in
    let most : 2 ^ (k + k) ≤ 2 ^ l.0 * 2 = le_trans (pow_mono high) (le_of_eq (pow-suc 2 l.0)) in
    record { above = omega (arith, l.2, pow_mono low, four_twice k); least = omega (arith, l.3, most, four_twice k) }

pub zeros_place : (z : ℕ) → z ≤ 32 → 2 ^ 62 / 2 ^ z / 2 ^ z ≡ 4 ^ (32 - z) / 4
zeros_place z h = div-div-eq-div-mul (2 ^ 62) (2 ^ z) (2 ^ z) ∙ ap (2 ^ 62 /◌) (sym (four_square z)) ∙ go (32 - z) e
  where
    e : 32 - z + z ≡ 32
    e = omega arith

    go : (k : ℕ) → k + z ≡ 32 → 2 ^ 62 / 4 ^ z ≡ 4 ^ k / 4
    go zero f = let g : z ≡ 32 = omega arith in rw g
    go (suc k) f =
        let g : k + z ≡ 31 = omega arith in
        ap (◌/ 4 ^ z) (sym (sym (pow-add 4 k z) ∙ ap (4 ^◌) g)) ∙ mul-div_cancel (4 ^ k) (one-le-pow z 4 (omega arith)) ∙ sym (next_place k)
