-- Packing fields into a number and taking them out again, over any list of widths. Assumes nothing.
use Prim.Native.Nat.{ℕ, zero, suc, ◌+◌, ◌*◌, ◌/◌, ◌%◌, ◌^◌, ◌<◌}
use mathlib.Core.Path.{◌≡◌, refl, sym, ap, ap₂, ◌∙◌}
use mathlib.Core.List.{List, [], ◌∷◌, ◌++◌}
use native.Mathlib.Nat.{not-suc-le-zero, le_of_suc-le-suc, mod-lt, mod-eq_of_lt, mod-one, zero-mod, zero-div, mul_assoc, add_assoc, add_comm, add-mul, zero-mul, mul-add-div_right, mul-add-mod_self_right}
use native.Mathlib.Omega.{arith}
use lib.ListN.{length, get_or, take, replicate}
use lib.Arith.{digits_lt}
use lib.Pow.{pow_pos, pow-add, high, shr-shr, mod-pow-add}
use Rattle.layout.specs.Layout.{sum, pack, unpack, Within}

-- two lists that begin alike
heads : {x y : ℕ} {l m : List ℕ} → x ≡ y → l ≡ m → x ∷ l ≡ y ∷ m
heads e f = ap₂ (λ (z : ℕ) (n : List ℕ). z ∷ n) e f

pub within_length : (ws vs : List ℕ) → Within ws vs → length vs ≡ length ws
within_length [] [] fit = refl
within_length [] (v ∷ vs) fit = absurd fit
within_length (w ∷ ws) [] fit = absurd fit
within_length (w ∷ ws) (v ∷ vs) fit = ap suc (within_length ws vs fit.1)

pub within_append : (ws vs xs ys : List ℕ) → Within ws vs → Within xs ys → Within (ws ++ xs) (vs ++ ys)
within_append [] [] xs ys f g = g
within_append [] (v ∷ vs) xs ys f g = absurd f
within_append (w ∷ ws) [] xs ys f g = absurd f
within_append (w ∷ ws) (v ∷ vs) xs ys f g = (f.0, within_append ws vs xs ys f.1 g)

pub within_front : (ws xs vs : List ℕ) → Within (ws ++ xs) vs → Within ws (take (length ws) vs)
within_front [] xs vs f = tt
within_front (w ∷ ws) xs [] f = absurd f
within_front (w ∷ ws) xs (v ∷ vs) f = (f.0, within_front ws xs vs f.1)

pub within_at : (ws vs : List ℕ) (i : ℕ) → Within ws vs → i < length ws → get_or vs i 0 < 2 ^ get_or ws i 0
within_at [] vs i f h = absurd (not-suc-le-zero h)
within_at (w ∷ ws) [] i f h = absurd f
within_at (w ∷ ws) (v ∷ vs) zero f h = f.0
within_at (w ∷ ws) (v ∷ vs) (suc i) f h = within_at ws vs i f.1 (le_of_suc-le-suc h)

pub length_unpack : (ws : List ℕ) (n : ℕ) → length (unpack ws n) ≡ length ws
length_unpack [] n = refl
length_unpack (_ ∷ ws) n = ap suc (length_unpack ws n)

pub unpack_within : (ws : List ℕ) (n : ℕ) → Within ws (unpack ws n)
unpack_within [] n = tt
unpack_within (w ∷ ws) n = (mod-lt _ (pow_pos w), unpack_within ws n)

pub pack_lt : (ws vs : List ℕ) → Within ws vs → pack ws vs < 2 ^ sum ws
pack_lt [] [] fit = omega arith
pack_lt [] (v ∷ vs) fit = absurd fit
pack_lt (w ∷ ws) [] fit = absurd fit
pack_lt (w ∷ ws) (v ∷ vs) fit =
    let here = digits_lt fit.0 (pack_lt ws vs fit.1) in
    rw (pow-add 2 w (sum ws)) here

-- what stands above a layout's bits is not seen
pub unpack_low : (ws : List ℕ) (q r : ℕ) → unpack ws (q * 2 ^ sum ws + r) ≡ unpack ws r
unpack_low [] q r = refl
unpack_low (w ∷ ws) q r =
    let s = sum ws in
    let e : q * 2 ^ (w + s) ≡ q * 2 ^ w * 2 ^ s = simp (pow-add, mul_assoc) in
    let f : (q * 2 ^ w * 2 ^ s + r) / 2 ^ s % 2 ^ w ≡ r / 2 ^ s % 2 ^ w =
    ap (λ (n : ℕ). n % 2 ^ w) (mul-add-div_right (pow_pos s) (q * 2 ^ w) r) ∙ mul-add-mod_self_right q (2 ^ w) (r / 2 ^ s) in
    ap (λ (n : ℕ). unpack (w ∷ ws) (n + r)) e ∙ heads f (unpack_low ws (q * 2 ^ w) r)

-- there and back
pub unpack_pack : (ws vs : List ℕ) → Within ws vs → unpack ws (pack ws vs) ≡ vs
unpack_pack [] [] fit = refl
unpack_pack [] (v ∷ vs) fit = absurd fit
unpack_pack (w ∷ ws) [] fit = absurd fit
unpack_pack (w ∷ ws) (v ∷ vs) fit =
    let e : (v * 2 ^ sum ws + pack ws vs) / 2 ^ sum ws ≡ v = high v (sum ws) (pack_lt ws vs fit.1) in
    rw (e, mod-eq_of_lt fit.0, unpack_low ws v (pack ws vs), unpack_pack ws vs fit.1)

pub pack_unpack : (ws : List ℕ) (n : ℕ) → pack ws (unpack ws n) ≡ n % 2 ^ sum ws
pack_unpack [] n = sym (mod-one n)
pack_unpack (w ∷ ws) n = rw (pack_unpack ws n, mod-pow-add n w (sum ws))

-- a layout in two parts
pub sum_append : (ws us : List ℕ) → sum (ws ++ us) ≡ sum ws + sum us
sum_append [] us = omega arith
sum_append (w ∷ ws) us = omega (arith, sum_append ws us)

pub pack_append : (ws us vs xs : List ℕ) → length vs ≡ length ws → pack (ws ++ us) (vs ++ xs) ≡ pack ws vs * 2 ^ sum us + pack us xs
pack_append [] us [] xs e = omega (arith, zero-mul (2 ^ sum us))
pack_append [] us (v ∷ vs) xs e = absurd (omega arith)
pack_append (w ∷ ws) us [] xs e = absurd (omega arith)
pack_append (w ∷ ws) us (v ∷ vs) xs e =
    let rest = pack_append ws us vs xs (omega arith) in
    simp (rest, sum_append ws us, pow-add, add-mul, mul_assoc, add_assoc)

pub unpack_append : (ws us : List ℕ) (q r : ℕ) → r < 2 ^ sum us → unpack (ws ++ us) (q * 2 ^ sum us + r) ≡ unpack ws q ++ unpack us r
unpack_append [] us q r h = unpack_low us q r
unpack_append (w ∷ ws) us q r h =
    let n = q * 2 ^ sum us + r in
    let e : n / 2 ^ sum (ws ++ us) ≡ q / 2 ^ sum ws =
    ap (λ (k : ℕ). n / 2 ^ k) (sum_append ws us ∙ add_comm (sum ws) (sum us))
    ∙ sym (shr-shr n (sum us) (sum ws)) ∙ ap (λ (k : ℕ). k / 2 ^ sum ws) (high q (sum us) h) in
    heads (ap (λ (k : ℕ). k % 2 ^ w) e) (unpack_append ws us q r h)

-- nothing but zeros
pub pack_zeros : (ws : List ℕ) → pack ws (replicate (length ws) 0) ≡ 0
pack_zeros [] = refl
pack_zeros (w ∷ ws) = omega (arith, pack_zeros ws, zero-mul (2 ^ sum ws))

pub unpack_zero : (ws : List ℕ) → unpack ws 0 ≡ replicate (length ws) 0
unpack_zero [] = refl
unpack_zero (w ∷ ws) = heads (rw (zero-div, zero-mod)) (unpack_zero ws)
