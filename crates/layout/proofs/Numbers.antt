-- Lists of bytes as numbers: the laws of packing at a layout of eights. Assumes nothing.
use Prim.Native.Nat.{ℕ, zero, suc, ◌+◌, ◌-◌, ◌*◌, ◌/◌, ◌%◌, ◌^◌, ◌≤◌, ◌<◌}
use mathlib.Core.Path.{◌≡◌, refl, sym, ap, ap₂, ◌∙◌, subst}
use mathlib.Core.List.{List, [], ◌∷◌, ◌++◌}
use native.Mathlib.Nat.{mul_assoc, mul-add-div_right, mul-add-mod_self_right, le_refl}
use native.Mathlib.Numerals.{add-one}
use native.Mathlib.Omega.{arith}
use lib.Dec.{lit<}
use lib.ListN.{length, get_or, take, drop, replicate, length-append, length-drop, length-replicate, replicate-append-replicate, take-append-drop}
use lib.Seq.{get_or-drop, take-suc, length-take-le, take-take, take-add}
use lib.Pow.{pow_pos, pow-add, high, shr-shr, shl-shr}
use lib.Pow as P
use Rattle.layout.specs.Layout.{sum, pack, unpack, Within, Bytes, num, bytes_of, bits}
use Rattle.layout.proofs.Packing.{pack_lt, length_unpack, unpack_within, unpack_pack, pack_unpack, pack_append, unpack_append, pack_zeros, unpack_zero}

pub sum_eights : (k : ℕ) → sum (replicate k 8) ≡ 8 * k
sum_eights zero = refl
sum_eights (suc k) = omega (arith, sum_eights k)

-- lists of bytes
pub bytes_within : (s : List ℕ) → Bytes s → Within (replicate (length s) 8) s
bytes_within [] h = tt
bytes_within (b ∷ s) h = (h 0, bytes_within s (λ i. h (suc i)))

pub within_bytes : (k : ℕ) (s : List ℕ) → Within (replicate k 8) s → Bytes s
within_bytes zero [] h i = lit< tt
within_bytes zero (b ∷ s) h i = absurd h
within_bytes (suc k) [] h i = absurd h
within_bytes (suc k) (b ∷ s) h zero = h.0
within_bytes (suc k) (b ∷ s) h (suc i) = within_bytes k s h.1 i

pub bytes_append : (s t : List ℕ) → Bytes s → Bytes t → Bytes (s ++ t)
bytes_append [] t hs ht i = ht i
bytes_append (b ∷ s) t hs ht zero = hs 0
bytes_append (b ∷ s) t hs ht (suc i) = bytes_append s t (λ k. hs (suc k)) ht i

bytes_left : (s t : List ℕ) → Bytes (s ++ t) → Bytes s
bytes_left [] t h i = lit< tt
bytes_left (b ∷ s) t h zero = h 0
bytes_left (b ∷ s) t h (suc i) = bytes_left s t (λ k. h (suc k)) i

pub bytes_take : (k : ℕ) (s : List ℕ) → Bytes s → Bytes (take k s)
bytes_take k s h = bytes_left (take k s) (drop k s) (λ i. rw (take-append-drop k s) (h i))

pub bytes_drop : (k : ℕ) (s : List ℕ) → Bytes s → Bytes (drop k s)
bytes_drop k s h i = rw get_or-drop (h (k + i))

-- a number and its bytes
pub num_lt : (s : List ℕ) → Bytes s → num s < 2 ^ (8 * length s)
unfolding num
num_lt s h = rw sum_eights at (pack_lt (replicate (length s) 8) s (bytes_within s h))

pub bytes_num : (s : List ℕ) → Bytes s → bytes_of (length s) (num s) ≡ s
unfolding num bytes_of
bytes_num s h = unpack_pack (replicate (length s) 8) s (bytes_within s h)

pub length_bytes_of : (k n : ℕ) → length (bytes_of k n) ≡ k
unfolding bytes_of
length_bytes_of k n = length_unpack (replicate k 8) n ∙ length-replicate k 8

pub bytes_of_bytes : (k n : ℕ) → Bytes (bytes_of k n)
unfolding bytes_of
bytes_of_bytes k n = within_bytes k (unpack (replicate k 8) n) (unpack_within (replicate k 8) n)

pub num_bytes_of : (k n : ℕ) → num (bytes_of k n) ≡ n % 2 ^ (8 * k)
unfolding num bytes_of
num_bytes_of k n =
    ap (λ (j : ℕ). pack (replicate j 8) (unpack (replicate k 8) n)) (length_unpack (replicate k 8) n ∙ length-replicate k 8)
    ∙ pack_unpack (replicate k 8) n ∙ ap (λ (j : ℕ). n % 2 ^ j) (sum_eights k)

-- side by side
pub num_append : (s t : List ℕ) → num (s ++ t) ≡ num s * 2 ^ (8 * length t) + num t
unfolding num
num_append s t =
    ap (λ (ws : List ℕ). pack ws (s ++ t))
    (ap (λ (k : ℕ). replicate k 8) (length-append s t) ∙ sym (replicate-append-replicate (length s) (length t) 8))
    ∙ pack_append (replicate (length s) 8) (replicate (length t) 8) s t (sym (length-replicate (length s) 8))
    ∙ ap (λ (x : ℕ). pack (replicate (length s) 8) s * 2 ^ x + pack (replicate (length t) 8) t) (sum_eights (length t))

pub bytes_of_append : (j k q r : ℕ) → r < 2 ^ (8 * k) → bytes_of (j + k) (q * 2 ^ (8 * k) + r) ≡ bytes_of j q ++ bytes_of k r
unfolding bytes_of
bytes_of_append j k q r h =
    ap₂ (λ (ws : List ℕ) (x : ℕ). unpack ws (q * 2 ^ x + r)) (sym (replicate-append-replicate j k 8)) (sym (sum_eights k))
    ∙ unpack_append (replicate j 8) (replicate k 8) q r (subst (λ (x : ℕ). r < 2 ^ x) (sym (sum_eights k)) h)

-- one byte more, at either end
num_one : (b : ℕ) → num (b ∷ []) ≡ b
unfolding num
num_one b = omega arith

pub num_none : num [] ≡ 0
unfolding num
num_none = refl

pub num_snoc : (s : List ℕ) (i : ℕ) → i < length s → num (take (i + 1) s) ≡ num (take i s) * 256 + get_or s i 0
num_snoc s i h =
    rw (add-one, take-suc s i 0)
    (num_append (take i s) (get_or s i 0 ∷ []) ∙ ap (λ (x : ℕ). num (take i s) * 256 + x) (num_one (get_or s i 0)))

pub bytes_of_cons : (k n : ℕ) → bytes_of (suc k) n ≡ (n / 2 ^ (8 * k) % 256) ∷ bytes_of k n
unfolding bytes_of
bytes_of_cons k n = ap (λ (x : ℕ). (n / 2 ^ x % 256) ∷ unpack (replicate k 8) n) (sum_eights k)

pub bytes_of_none : (n : ℕ) → bytes_of 0 n ≡ []
unfolding bytes_of
bytes_of_none n = refl

-- zeros
pub num_zeros : (k : ℕ) → num (replicate k 0) ≡ 0
unfolding num
num_zeros k =
    rw (length-replicate {A = ℕ} k 0)
    (ap (λ (x : ℕ). pack (replicate k 8) (replicate x 0)) (sym (length-replicate k 8)) ∙ pack_zeros (replicate k 8))

pub bytes_of_zero : (k : ℕ) → bytes_of k 0 ≡ replicate k 0
unfolding bytes_of
bytes_of_zero k = unpack_zero (replicate k 8) ∙ ap (λ (x : ℕ). replicate x 0) (length-replicate k 8)

-- the first k bytes are the number with the rest shifted out
num_take : (s : List ℕ) (k : ℕ) → Bytes s → k ≤ length s → num s / 2 ^ (8 * (length s - k)) ≡ num (take k s)
num_take s k h l =
    let t = drop k s in
    ap₂ (λ (x y : ℕ). x / 2 ^ (8 * y)) (ap num (sym (take-append-drop k s)) ∙ num_append (take k s) t) (sym (length-drop k s))
    ∙ high (num (take k s)) (8 * length t) (num_lt t (bytes_drop k s h))

-- bits are bits of the whole bytes that they end in, d bits before the end of these
pub bits_take : (s : List ℕ) (at n d k : ℕ) → Bytes s → k ≤ length s → at + n + d ≡ 8 * k → bits at n s ≡ num (take k s) / 2 ^ d % 2 ^ n
unfolding bits
bits_take s at n d k h l e =
    let z : 8 * length s - (at + n) ≡ 8 * (length s - k) + d = omega arith in
    ap (λ (x : ℕ). x % 2 ^ n)
    (ap (λ (x : ℕ). num s / 2 ^ x) z ∙ sym (shr-shr (num s) (8 * (length s - k)) d)
    ∙ ap (λ (x : ℕ). x / 2 ^ d) (num_take s k h l))

-- bits that end in the first k bytes are read in these alone
pub bits_front : (s : List ℕ) (at n k : ℕ) → Bytes s → k ≤ length s → at + n ≤ 8 * k → bits at n (take k s) ≡ bits at n s
bits_front s at n k h l e =
    let d = 8 * k - (at + n) in
    let m : length (take k s) ≡ k = length-take-le k s l in
    bits_take (take k s) at n d k (bytes_take k s h) (omega arith) (omega arith)
    ∙ ap (λ (t : List ℕ). num t / 2 ^ d % 2 ^ n) (take-take k k s (le_refl k))
    ∙ sym (bits_take s at n d k h l (omega arith))

-- n bits out of a word of n + d + u: shifted up by u, the bits above them fall out
shifted : (x n d u : ℕ) → x * 2 ^ u % 2 ^ (n + (u + d)) / 2 ^ (u + d) ≡ x / 2 ^ d % 2 ^ n
shifted x n d u =
    P.field (x * 2 ^ u) n (u + d)
    ∙ ap (λ (y : ℕ). y % 2 ^ n) (sym (shr-shr (x * 2 ^ u) u d) ∙ ap (λ (y : ℕ). y / 2 ^ d) (shl-shr x u))

-- what stands r bits or more above n bits is not seen in them
above : (q x r n d : ℕ) → (q * 2 ^ (r + n + d) + x) / 2 ^ d % 2 ^ n ≡ x / 2 ^ d % 2 ^ n
above q x r n d =
    let e : q * 2 ^ (r + n + d) ≡ q * 2 ^ r * 2 ^ n * 2 ^ d = simp (pow-add, mul_assoc) in
    ap (λ (y : ℕ). (y + x) / 2 ^ d % 2 ^ n) e
    ∙ ap (λ (y : ℕ). y % 2 ^ n) (mul-add-div_right (pow_pos d) (q * 2 ^ r * 2 ^ n) x)
    ∙ mul-add-mod_self_right (q * 2 ^ r) (2 ^ n) (x / 2 ^ d)

-- the bits out of the k bytes from index f on that hold them
window : (at d : ℕ) (s : List ℕ) (n f k u : ℕ) → Bytes s → f + k ≤ length s → 8 * f ≤ at → at + n + d ≡ 8 * (f + k) → u + d + n ≡ 64
    → num (take k (drop f s)) * 2 ^ u % 2 ^ 64 / 2 ^ (64 - n) ≡ bits at n s
window at d s n f k u h l g e w =
    let x = num (take k (drop f s)) in
    let q = num (take f s) in
    let r = at - 8 * f in
    let a : 64 ≡ n + (u + d) = omega arith in
    let b : 64 - n ≡ u + d = omega arith in
    let m : length (take k (drop f s)) ≡ k = length-take-le k (drop f s) (rw length-drop (omega arith)) in
    let i : 8 * length (take k (drop f s)) ≡ r + n + d = omega arith in
    ap₂ (λ (y z : ℕ). x * 2 ^ u % 2 ^ y / 2 ^ z) a b
    ∙ shifted x n d u
    ∙ sym (above q x r n d)
    ∙ ap (λ (y : ℕ). (q * 2 ^ y + x) / 2 ^ d % 2 ^ n) (sym i)
    ∙ ap (λ (y : ℕ). y / 2 ^ d % 2 ^ n) (sym (num_append (take f s) (take k (drop f s))) ∙ ap num (sym (take-add f k s)))
    ∙ sym (bits_take s at n d (f + k) h l e)

-- out of any k bytes from the field's first one on that hold it
pub window_at : (s : List ℕ) (at n k u : ℕ) → Bytes s → at / 8 + k ≤ length s → at % 8 + n ≤ 8 * k → u + 8 * k ≡ 64 + at % 8
    → num (take k (drop (at / 8) s)) * 2 ^ u % 2 ^ 64 / 2 ^ (64 - n) ≡ bits at n s
window_at s at n k u h i l e = window at (8 * k - (at % 8 + n)) s n (at / 8) k u h i (omega arith) (omega arith) (omega arith)
