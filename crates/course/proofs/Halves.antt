-- Why a half is shorter: with lengths that are roots of squared distances, down or nearest, twice a half's length is at most the whole's
-- and 3. Squares are compared, since `omega` knows no products. Assumes nothing.
use mathlib.Core.Path.{◌≡◌, sym, subst}
use Prim.Native.Nat.{ℕ, ◌+◌, ◌-◌, ◌*◌, ◌^◌, ◌≤◌, ◌<◌}
use native.Mathlib.Nat.{mul-le-mul, mul-mul-mul_comm, mul-add, add-mul, lt_irrefl, lt_of_lt_of_le}
use native.Mathlib.Decide.{dec_le, dec_lt}
use native.Mathlib.Omega.{arith}
use Rattle.root.proofs.Laws.{root_is}
use Rattle.course.specs.declared.Ends.{Ends}
use Rattle.course.specs.Course.{apart, square, plan_between, length_of, first_half, second_half, Mapped}

-- ---- squares

next : (l : ℕ) → (l + 1) * (l + 1) ≡ l * l + 2 * l + 1
next l = simp (mul-add, add-mul) (omega arith)

twice : (n : ℕ) → 2 * n * (2 * n) ≡ 4 * (n * n)
twice n = mul-mul-mul_comm 2 n 2 n

-- a square is below a square only of a larger number
square_lt : (a b : ℕ) → a * a < b * b → a < b
square_lt a b h = go (dec_lt a b)
  where
    go : Dec (a < b) → a < b
    go (yes l) = l
    go (no l) =
        let m : b ≤ a = omega arith in
        absurd (lt_irrefl (a * a) (lt_of_lt_of_le h (mul-le-mul m m)))

-- ---- what is used of a length: l is a root of d, down or nearest

record Close (d l : ℕ) : Type 0 where
  low : l * l ≤ d + l
  high : d < (l + 1) * (l + 1)

-- one coordinate: half of a difference, rounded either way
half_square : (d e : ℕ) → 2 * e ≤ d + 1 → 4 * (e * e) ≤ d * d + 2 * d + 1
half_square d e h =
    let s : 2 * e * (2 * e) ≤ (d + 1) * (d + 1) = mul-le-mul h h in
    omega (arith, s, twice e, next d)

apart_enough : (l k : ℕ) → l + 2 ≤ k → l * l + 6 * l + 8 ≤ (k + 2) * k
apart_enough l k h =
    let a : l + 4 ≤ k + 2 = omega arith in
    let s : (l + 4) * (l + 2) ≤ (k + 2) * k = mul-le-mul a h in
    let e : (l + 4) * (l + 2) ≡ l * l + 6 * l + 8 = simp (mul-add, add-mul) (omega arith) in
    omega (arith, s, e)

half_short : (d l e m : ℕ) → Close d l → Close e m → 4 * e ≤ d + 4 * l + 2 → 2 * m ≤ l + 3
half_short d l e m a b h = go (dec_le (2 * m) (l + 3))
  where
    go : Dec (2 * m ≤ l + 3) → 2 * m ≤ l + 3
    go (yes f) = f
    go (no f) =
        let k : ℕ = 2 * m - 2 in
        let s : k + 2 ≡ 2 * m = omega arith in
        let p : l * l + 6 * l + 8 ≤ (k + 2) * k = apart_enough l k (omega arith) in
        let q : (k + 2) * (k + 2) ≡ (k + 2) * k + (k + 2) * 2 = mul-add (k + 2) k 2 in
        let t : (k + 2) * (k + 2) ≡ 4 * (m * m) = subst (λ (n : ℕ). n * n ≡ 4 * (m * m)) (sym s) (twice m) in
        absurd (omega (arith, p, q, t, a.high, b.low, next l))

-- ---- roads between two ends

abbrev square_of : Ends → ℕ
square_of e = plan_between e.x1 e.y1 e.x2 e.y2

-- the only place that knows which root a length is
length_close : (e : Ends) → Close (square_of e) (length_of e)
unfolding length_of
length_close e = let h = root_is (square_of e) in record { low = omega (arith, h.at_most); high = h.above }

-- neither difference is longer than the road
reach : (a b l : ℕ) → a * a + b * b < (l + 1) * (l + 1) → a ≤ l
reach a b l h = let s : a < l + 1 = square_lt a (l + 1) (omega arith) in omega arith

quarter : (a b e f l : ℕ) → a * a + b * b < (l + 1) * (l + 1) → 2 * e ≤ a + 1 → 2 * f ≤ b + 1 → 4 * (e * e + f * f) ≤ a * a + b * b + 4 * l + 2
quarter a b e f l h u v =
    let s : a ≤ l = reach a b l h in
    let t : b ≤ l = reach b a l (omega arith) in
    omega (arith, half_square a e u, half_square b f v)

-- h is a half of e: its differences are halves of those of e, rounded either way
record Half (e h : Ends) : Type 0 where
  across : 2 * apart h.x1 h.x2 ≤ apart e.x1 e.x2 + 1
  along : 2 * apart h.y1 h.y2 ≤ apart e.y1 e.y2 + 1
  across_least : apart e.x1 e.x2 ≤ 2 * apart h.x1 h.x2 + 1
  along_least : apart e.y1 e.y2 ≤ 2 * apart h.y1 h.y2 + 1

first_is : (e : Ends) → Half e (first_half e)
unfolding first_half
first_is e = record { across = omega arith; along = omega arith; across_least = omega arith; along_least = omega arith }

second_is : (e : Ends) → Half e (second_half e)
unfolding second_half
second_is e = record { across = omega arith; along = omega arith; across_least = omega arith; along_least = omega arith }

short : (e h : Ends) → Half e h → 2 * length_of h ≤ length_of e + 3
short e h s =
    half_short _ _ _ _ (length_close e) (length_close h)
    (quarter (apart e.x1 e.x2) (apart e.y1 e.y2) (apart h.x1 h.x2) (apart h.y1 h.y2) (length_of e) (length_close e).high s.across s.along)

pub first_short : (e : Ends) → 2 * length_of (first_half e) ≤ length_of e + 3
first_short e = short e (first_half e) (first_is e)

pub second_short : (e : Ends) → 2 * length_of (second_half e) ≤ length_of e + 3
second_short e = short e (second_half e) (second_is e)

-- a half of more than a few cm has a length
some : (e h : Ends) → Half e h → 250 < length_of e → 1 ≤ length_of h
some e h s l = go (dec_le 1 (length_of h))
  where
    go : Dec (1 ≤ length_of h) → 1 ≤ length_of h
    go (yes f) = f
    go (no f) =
        let z : length_of h ≡ 0 = omega arith in
        let k : square_of h < (0 + 1) * (0 + 1) = subst (λ (n : ℕ). square_of h < (n + 1) * (n + 1)) z (length_close h).high in
        let a : apart h.x1 h.x2 ≤ 0 = reach _ (apart h.y1 h.y2) 0 k in
        let b : apart h.y1 h.y2 ≤ 0 = reach _ (apart h.x1 h.x2) 0 (omega arith) in
        let i : apart e.x1 e.x2 ≤ 1 = omega (arith, s.across_least) in
        let j : apart e.y1 e.y2 ≤ 1 = omega (arith, s.along_least) in
        let x : square (apart e.x1 e.x2) ≤ 1 * 1 = mul-le-mul i i in
        let y : square (apart e.y1 e.y2) ≤ 1 * 1 = mul-le-mul j j in
        let w : 251 ≤ length_of e = omega arith in
        let v : 250 ≤ length_of e - 1 = omega arith in
        let m : 251 * 250 ≤ length_of e * (length_of e - 1) = mul-le-mul w v in
        let t : length_of e * (length_of e - 1 + 1) ≡ length_of e * (length_of e - 1) + length_of e * 1 = mul-add (length_of e) (length_of e - 1) 1 in
        let u : length_of e - 1 + 1 ≡ length_of e = omega arith in
        absurd (omega (arith, x, y, m, rw u at t, (length_close e).low))

pub first_some : (e : Ends) → 250 < length_of e → 1 ≤ length_of (first_half e)
first_some e h = some e (first_half e) (first_is e) h

pub second_some : (e : Ends) → 250 < length_of e → 1 ≤ length_of (second_half e)
second_some e h = some e (second_half e) (second_is e) h

-- ---- in 24 bits

pub plan_small : (x1 y1 x2 y2 : ℕ) → x1 < 2 ^ 24 → y1 < 2 ^ 24 → x2 < 2 ^ 24 → y2 < 2 ^ 24 → plan_between x1 y1 x2 y2 ≤ 2 ^ 49
plan_small x1 y1 x2 y2 a b c d =
    let u : apart x1 x2 ≤ 2 ^ 24 = omega arith in
    let v : apart y1 y2 ≤ 2 ^ 24 = omega arith in
    let s : square (apart x1 x2) ≤ 2 ^ 24 * 2 ^ 24 = mul-le-mul u u in
    let t : square (apart y1 y2) ≤ 2 ^ 24 * 2 ^ 24 = mul-le-mul v v in
    omega (arith, s, t)

pub length_small : (e : Ends) → Mapped e → length_of e ≤ 2 ^ 25
length_small e m = go (dec_le (length_of e) (2 ^ 25))
  where
    go : Dec (length_of e ≤ 2 ^ 25) → length_of e ≤ 2 ^ 25
    go (yes l) = l
    go (no l) =
        let n : 2 ^ 25 ≤ length_of e - 1 = omega arith in
        let s : (2 ^ 25 + 1) * 2 ^ 25 ≤ length_of e * (length_of e - 1) = mul-le-mul (let z : 2 ^ 25 + 1 ≤ length_of e = omega arith in z) n in
        let t : length_of e * (length_of e - 1 + 1) ≡ length_of e * (length_of e - 1) + length_of e * 1 = mul-add (length_of e) (length_of e - 1) 1 in
        let u : length_of e - 1 + 1 ≡ length_of e = omega arith in
        absurd (omega (arith, s, rw u at t, (length_close e).low, plan_small e.x1 e.y1 e.x2 e.y2 m.x1 m.y1 m.x2 m.y2))

pub first_mapped : (e : Ends) → Mapped e → Mapped (first_half e)
unfolding first_half
first_mapped e m = record { x1 = m.x1; y1 = m.y1; x2 = omega (arith, m.x1, m.x2); y2 = omega (arith, m.y1, m.y2) }

pub second_mapped : (e : Ends) → Mapped e → Mapped (second_half e)
unfolding second_half
second_mapped e m = record { x1 = omega (arith, m.x1, m.x2); y1 = omega (arith, m.y1, m.y2); x2 = m.x2; y2 = m.y2 }
