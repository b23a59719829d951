-- A number's digits have its value, are digits, and begin with 0 only for 0; a number of 64 bits has 20 at most.
-- Assumes nothing.
use Prim.Native.Nat.{ℕ, zero, suc, ◌+◌, ◌-◌, ◌*◌, ◌/◌, ◌^◌, ◌≤◌, ◌<◌, max}
use mathlib.Core.Path.{◌≡◌, refl, sym, ap, subst, ◌∙◌}
use mathlib.Core.Bool.{Bool, true, false}
use mathlib.Core.List.{List, [], ◌∷◌, ◌++◌}
use native.Mathlib.Nat.{pow-suc, div-eq_of_lt}
use native.Mathlib.Omega.{arith}
use borrow.Author.Tests.{ltb-true, ltb-false}
use lib.Dec.{ltb}
use lib.ListN.{length, get_or, length-append, get_or-append}
use Rattle.text.specs.Text.{digit, digits_in, decimal, last_digits, value_after}

-- ---- the digits of a number

-- more turns than n change nothing, and 0 takes none
turns : (a b n : ℕ) → n ≤ a → n ≤ b → digits_in a n ≡ digits_in b n
unfolding digits_in
turns zero zero n h l = refl
turns zero (suc b) zero h l = refl
turns zero (suc b) (suc m) h l = absurd (omega arith)
turns (suc a) zero zero h l = refl
turns (suc a) zero (suc m) h l = absurd (omega arith)
turns (suc a) (suc b) zero h l = refl
turns (suc a) (suc b) (suc m) h l = ap (λ (l : List ℕ). l ++ (digit (suc m) ∷ [])) (turns a b (suc m / 10) (omega arith) (omega arith))

none : (k : ℕ) → digits_in k 0 ≡ []
unfolding digits_in
none k = turns k 0 0 (omega arith) (omega arith)

some : (k n : ℕ) → 1 ≤ n → n ≤ k → digits_in k n ≡ decimal n
unfolding decimal
some k zero h l = absurd (omega arith)
some k (suc m) h l = turns k (suc m) (suc m) l (omega arith)

-- a number of one digit, and one of more
pub decimal_one : (n : ℕ) → n < 10 → decimal n ≡ digit n ∷ []
unfolding decimal digits_in
decimal_one zero h = refl
decimal_one (suc m) h = ap (λ (q : ℕ). digits_in m q ++ (digit (suc m) ∷ [])) (div-eq_of_lt h) ∙ ap (λ (l : List ℕ). l ++ (digit (suc m) ∷ [])) (none m)

pub decimal_more : (n : ℕ) → 10 ≤ n → decimal n ≡ decimal (n / 10) ++ (digit n ∷ [])
unfolding decimal digits_in
decimal_more zero h = absurd (omega arith)
decimal_more (suc m) h = ap (λ (l : List ℕ). l ++ (digit (suc m) ∷ [])) (some m (suc m / 10) (omega arith) (omega arith))

-- what holds of one digit, and of a number if of its tens, holds of every number's digits
module _ (P : ℕ → List ℕ → Type 0)
    (one : (n : ℕ) → n < 10 → P n (digit n ∷ []))
    (more : (n : ℕ) → 10 ≤ n → P (n / 10) (decimal (n / 10)) → P n (decimal (n / 10) ++ (digit n ∷ []))) where
  step : (n : ℕ) (t : Bool) → ltb n 10 ≡ t → (ltb n 10 ≡ false → P (n / 10) (decimal (n / 10))) → P n (decimal n)
  step n true e h = subst (P n) (sym (decimal_one n (ltb-true n 10 e))) (one n (ltb-true n 10 e))
  step n false e h = subst (P n) (sym (decimal_more n (ltb-false n 10 e))) (more n (ltb-false n 10 e) (h e))

  below : (k n : ℕ) → n < k → P n (decimal n)
  below zero n h = absurd (omega arith)
  below (suc k) n h = step n (ltb n 10) refl (λ e. below k (n / 10) (omega (arith, ltb-false n 10 e)))

  pub by_digits : (n : ℕ) → P n (decimal n)
  by_digits n = below (suc n) n (omega arith)

-- one digit more
pub value_last : (base v b : ℕ) (l : List ℕ) → value_after base v (l ++ (b ∷ [])) ≡ value_after base v l * base + (b - 48)
value_last base v b [] = refl
value_last base v b (a ∷ l) = value_last base (v * base + (a - 48)) b l

-- a number's digits have its value
pub value_decimal : (n : ℕ) → value_after 10 0 (decimal n) ≡ n
value_decimal =
    by_digits (λ n l. value_after 10 0 l ≡ n) (λ n h. omega arith)
    (λ n h e. value_last 10 0 (digit n) (decimal (n / 10)) ∙ ap (λ (x : ℕ). x * 10 + (digit n - 48)) e ∙ omega arith)

-- each byte is a digit
abbrev pub Digits : List ℕ → Type 0
Digits [] = Unit
Digits (b ∷ l) = (48 ≤ b) × (b ≤ 57) × Digits l

digits_last : (b : ℕ) (l : List ℕ) → 48 ≤ b → b ≤ 57 → Digits l → Digits (l ++ (b ∷ []))
digits_last b [] h k d = (h, k, tt)
digits_last b (a ∷ l) h k d = (d.0, d.1, digits_last b l h k d.2)

pub digits_decimal : (n : ℕ) → Digits (decimal n)
digits_decimal =
    by_digits (λ n l. Digits l) (λ n h. (omega arith, omega arith, tt))
    (λ n h d. digits_last (digit n) (decimal (n / 10)) (omega arith) (omega arith) d)

-- there is a digit, and the first is 0 for 0 only
pub first_digit : (n : ℕ) → (1 ≤ length (decimal n)) × (get_or (decimal n) 0 0 ≡ 48 → n ≡ 0)
first_digit =
    by_digits (λ n l. (1 ≤ length l) × (get_or l 0 0 ≡ 48 → n ≡ 0)) (λ n h. (omega arith, λ e. omega arith))
    (λ n h p. (
      rw length-append (omega arith),
      λ e. absurd (omega (arith, p.1 (sym (get_or-append (decimal (n / 10)) (digit n ∷ []) 0 0 p.0) ∙ e))),
    ))

-- the digits are the last ones, as many as there are
pub decimal_last : (n : ℕ) → decimal n ≡ last_digits (length (decimal n)) n
unfolding last_digits
decimal_last =
    by_digits (λ n l. l ≡ last_digits (length l) n) (λ n h. refl)
    (λ n h e.
    let k : length (decimal (n / 10) ++ (digit n ∷ [])) ≡ suc (length (decimal (n / 10))) = rw length-append (omega arith) in
    ap (λ (l : List ℕ). l ++ (digit n ∷ [])) e ∙ ap (λ (j : ℕ). last_digits j n) (sym k))

pub length_last_digits : (k n : ℕ) → length (last_digits k n) ≡ k
unfolding last_digits
length_last_digits zero n = refl
length_last_digits (suc k) n = rw length-append (omega (arith, length_last_digits k (n / 10)))

-- ---- lengths

pub length_more : (n : ℕ) → 10 ≤ n → length (decimal n) ≡ length (decimal (n / 10)) + 1
length_more n h = ap length (decimal_more n h) ∙ length-append (decimal (n / 10)) (digit n ∷ [])

pub length_one : (n : ℕ) → n < 10 → length (decimal n) ≡ 1
length_one n h = ap length (decimal_one n h)

-- a number below 10 ^ (k + 1) has k + 1 digits at most
tens_less : (k n : ℕ) → n < 10 ^ suc k → n / 10 < 10 ^ k
tens_less k n h = let e = pow-suc 10 k in omega (arith, e)

fewer : (k n : ℕ) (t : Bool) → ltb n 10 ≡ t → n < 10 ^ suc k → (ltb n 10 ≡ false → (1 ≤ k) × (length (decimal (n / 10)) ≤ k)) → length (decimal n) ≤ suc k
fewer k n true e h l = omega (arith, length_one n (ltb-true n 10 e))
fewer k n false e h l = omega (arith, length_more n (ltb-false n 10 e), (l e).1)

pub length_decimal : (k n : ℕ) → n < 10 ^ suc k → length (decimal n) ≤ suc k
length_decimal zero n h = omega (arith, length_one n (omega arith))
length_decimal (suc k) n h =
    fewer (suc k) n (ltb n 10) refl h (λ e. (omega arith, length_decimal k (n / 10) (tens_less (suc k) n h)))

-- a number of 64 bits
pub length_count : (n : ℕ) → n < 2 ^ 64 → length (decimal n) ≤ 20
length_count n h = length_decimal 19 n (omega arith)

ten_pos : (k : ℕ) → 1 ≤ 10 ^ k
ten_pos zero = omega arith
ten_pos (suc k) =
    let p : 10 ^ suc k ≡ 10 ^ k * 10 = pow-suc 10 k in
    omega (arith, ten_pos k)

-- a number from 10 ^ k on and below ten times that has k + 1 digits, and so has 0 with those below 10
pub length_log : (k n : ℕ) → 10 ^ k ≤ n → n < 10 * 10 ^ k → length (decimal n) ≡ k + 1
length_log zero n h l = length_one n (omega arith)
length_log (suc k) n h l =
    let p : 10 ^ suc k ≡ 10 ^ k * 10 = pow-suc 10 k in
    let q = ten_pos k in
    omega (arith, length_more n (omega arith), length_log k (n / 10) (omega arith) (omega arith))

pub length_digits : (k n m : ℕ) → (n ≤ m) × (m ≤ max n 9) → 10 ^ k ≤ m → m < 10 * 10 ^ k → length (decimal n) ≡ k + 1
length_digits zero n m e h l = length_one n (omega arith)
length_digits (suc k) n m e h l =
    let p : 10 ^ suc k ≡ 10 ^ k * 10 = pow-suc 10 k in
    let q = ten_pos k in
    length_log (suc k) n (omega arith) (omega arith)
