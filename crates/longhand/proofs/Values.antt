-- The digits of a sheet have the values of its numbers, and the numbers have room in their columns; and what is written in decimal is
-- read back. Assumes nothing.
use Prim.Native.Nat.{ℕ, zero, suc, ◌+◌, ◌-◌, ◌*◌, ◌/◌, ◌%◌, ◌^◌, ◌≤◌, ◌<◌}
use mathlib.Core.Path.{◌≡◌, refl, sym, ap, ◌∙◌}
use mathlib.Core.Bool.{Bool, cond}
use mathlib.Core.List.{List, [], ◌∷◌, ◌++◌}
use native.Mathlib.Nat.{pow-suc, mul-le-mul}
use native.Mathlib.Decide.{dec_lt}
use native.Mathlib.Omega.{arith}
use borrow.Author.Tests.{lt-ltb, le-ltb, ne_eqb}
use lib.Pow.{pow-add}
use Rattle.root.specs.Root.{line_of, root_of}
use Rattle.root.proofs.Laws.{left_is}
use Rattle.root.proofs.Pairs.{four_square}
use Rattle.text.specs.Text.{digit, decimal, value_after}
use Rattle.longhand.specs.Sheet.{mark, columns, short, Promises}
use Rattle.longhand.specs.declared.reading.Reading.{Reading}
use Rattle.longhand.specs.declared.reading.Reading.TheVariants.{Nothing, Number, Wrong}
use Rattle.longhand.specs.Reading.{below, with_digit, fed_by, read_of}
use Rattle.longhand.specs.Reading.{Promises as Reading-as-Promises}
use Rattle.text.proofs.Decimal.{by_digits, value_last}

-- ---- in binary

mark_is : (lead v : ℕ) → lead ≤ 48 → mark lead v - 48 ≡ v % 2
mark_is lead zero h = omega arith
mark_is lead (suc v) h =
    let n : suc v ≡ 0 → ⊥ = λ (e : suc v ≡ 0). omega arith in
    let e : mark lead (suc v) ≡ 48 + suc v % 2 = ap (λ (t : Bool). cond t lead (48 + suc v % 2)) (ne_eqb (suc v) 0 n) in
    omega (arith, e)

half_less : (w v : ℕ) → v < 2 ^ suc w → v / 2 < 2 ^ w
half_less w v h = let e : 2 ^ suc w ≡ 2 ^ w * 2 = pow-suc 2 w in omega (arith, e)

columns_are : (lead w v : ℕ) → lead ≤ 48 → v < 2 ^ w → value_after 2 0 (columns lead w v) ≡ v
unfolding columns
columns_are lead zero v h l = omega arith
columns_are lead (suc w) v h l =
    value_last 2 0 (mark lead v) (columns lead w (v / 2))
    ∙ omega (arith, columns_are lead w (v / 2) h (half_less w v l), mark_is lead v h)

short_is : (w v : ℕ) → 1 ≤ w → v < 2 ^ w → value_after 2 0 (short w v) ≡ v
unfolding short columns
short_is w v h l =
    let e : w ≡ suc (w - 1) = omega arith in
    let k : v < 2 ^ suc (w - 1) = omega (arith, l, ap (2 ^◌) e) in
    value_last 2 0 (mark 48 v) (columns 32 (w - 1) (v / 2))
    ∙ omega (arith, columns_are 32 (w - 1) (v / 2) (omega arith) (half_less (w - 1) v k), mark_is 48 v (omega arith))

-- ---- room

root_fits : (i m : ℕ) → m < 4 ^ i → (line_of m).root < 2 ^ i
unfolding root_of
root_fits i m h = go (dec_lt (line_of m).root (2 ^ i))
  where
    go : Dec ((line_of m).root < 2 ^ i) → (line_of m).root < 2 ^ i
    go (yes l) = l
    go (no l) =
        let k : 2 ^ i ≤ (line_of m).root = omega arith in
        absurd (omega (arith, mul-le-mul k k, left_is m, four_square i, h))

left_fits : (i m : ℕ) → m < 4 ^ i → (line_of m).left < 2 ^ (2 * i)
unfolding root_of
left_fits i m h =
    let e : 2 * i ≡ i + i = omega arith in
    omega (arith, left_is m, four_square i, pow-add 2 i i, ap (2 ^◌) e, h)

-- the promises of specs/Sheet.antt
pub of_sheets : Promises
of_sheets =
    record {
      bits_are = λ w v. columns_are 48 w v (omega arith);
      short_is = short_is;
      root_fits = root_fits;
      left_fits = left_fits;
    }

-- ---- read back

read_last : (r : Reading) (b : ℕ) (l : List ℕ) → read_of r (l ++ (b ∷ [])) ≡ fed_by (read_of r l) b
read_last r b [] = refl
read_last r b (a ∷ l) = read_last (fed_by r a) b l

below_is : (v : ℕ) → v < 2 ^ 64 → below v ≡ Number v
below_is v h = rw (lt-ltb v (2 ^ 64) h)

below_not : (v : ℕ) → 2 ^ 64 ≤ v → below v ≡ Wrong
below_not v h = rw (le-ltb v (2 ^ 64) h)

-- a digit behind a number
digit_read : (q n : ℕ) → q ≡ n / 10 → with_digit q (digit n) ≡ below n
unfolding with_digit
digit_read q n e =
    let a : 48 ≤ digit n = omega arith in
    let b : digit n ≤ 57 = omega arith in
    let v : q * 10 + (digit n - 48) ≡ n = omega (arith, e) in
    rw (le-ltb (digit n) 48 a, le-ltb 57 (digit n) b) (ap below v)

fed_on : (n : ℕ) → fed_by (below (n / 10)) (digit n) ≡ below n
unfolding fed_by
fed_on n = go (dec_lt (n / 10) (2 ^ 64))
  where
    go : Dec (n / 10 < 2 ^ 64) → fed_by (below (n / 10)) (digit n) ≡ below n
    go (yes h) = ap (λ (r : Reading). fed_by r (digit n)) (below_is (n / 10) h) ∙ digit_read (n / 10) n refl
    go (no h) =
        let l : 2 ^ 64 ≤ n / 10 = omega arith in
        ap (λ (r : Reading). fed_by r (digit n)) (below_not (n / 10) l) ∙ sym (below_not n (omega arith))

read_back : (x : ℕ) → read_of Nothing (decimal x) ≡ below x
unfolding fed_by
read_back =
    by_digits (λ n l. read_of Nothing l ≡ below n) (λ n h. digit_read 0 n (omega arith))
    (λ n h e. read_last Nothing (digit n) (decimal (n / 10)) ∙ ap (λ (r : Reading). fed_by r (digit n)) e ∙ fed_on n)

-- the promise of specs/Reading.antt
pub of_reading : Reading-as-Promises
of_reading = record { read_back = read_back }
