-- The laws of records: what is written and read again, over any layout. Assumes nothing.
use Prim.Native.Nat.{ℕ, zero, suc, ◌+◌, ◌-◌, ◌*◌, ◌/◌, ◌%◌, ◌^◌, ◌≤◌, ◌<◌}
use mathlib.Core.Path.{◌≡◌, refl, sym, ap, ap₂, ◌∙◌, subst}
use mathlib.Core.Bool.{true, ◌&&◌}
use mathlib.Core.List.{List, [], ◌∷◌, ◌++◌, append-nil}
use native.Mathlib.Nat.{mod-eq_of_lt, le_refl, not-suc-le-zero, le_of_suc-le-suc}
use native.Mathlib.Numerals.{add-one}
use native.Mathlib.Omega.{arith}
use borrow.Author.Tests.{leb-true, eqb-true}
use lib.Dec.{leb, eqb}
use lib.ListN.{length, get_or, take, drop, replicate, length-drop, length-replicate, drop_of_length-le}
use lib.Seq.{length-take-le, take-take, take-append-le, take_at, take-length, take-add, split_at}
use Rattle.layout.specs.Layout.{sum, pack, unpack, Within, Bytes, num, bytes_of, size, fields, packed, bits, narrow, sized}
use Rattle.layout.specs.Over.{over}
use Rattle.layout.proofs.Packing.{within_length, pack_lt, length_unpack, unpack_within, unpack_pack, pack_unpack, sum_append, pack_append, unpack_append, pack_zeros, unpack_zero}
use Rattle.layout.proofs.Numbers.{bytes_take, bytes_drop, num_lt, bytes_num, length_bytes_of, bytes_of_bytes, num_bytes_of, num_append, bytes_of_append, num_zeros, bytes_of_zero, bits_take}
use Rattle.layout.proofs.Writes.{over_lent, part_over, part_before, part_after}
use Rattle.layout.proofs.Bounds.{both}

-- what the test of a layout says
module _ (ws : List ℕ) (h : sized ws ≡ true) where
  tests : (narrow 0 ws ≡ true) × (eqb (sum ws % 8) 0 && leb (sum ws) 8000 ≡ true)
  tests = both (narrow 0 ws) (eqb (sum ws % 8) 0 && leb (sum ws) 8000) h

  pub sized_narrow : narrow 0 ws ≡ true
  sized_narrow = tests.0

  pub sized_whole : 8 * size ws ≡ sum ws
  sized_whole = omega (arith, eqb-true (sum ws % 8) 0 (both (eqb (sum ws % 8) 0) (leb (sum ws) 8000) tests.1).0)

  pub sized_few : sum ws ≤ 8000
  sized_few = leb-true (sum ws) 8000 (both (eqb (sum ws % 8) 0) (leb (sum ws) 8000) tests.1).1

-- lengths and ranges
pub length_fields : (ws s : List ℕ) → length (fields ws s) ≡ length ws
unfolding fields
length_fields ws s = length_unpack ws (num (take (size ws) s))

pub fields_within : (ws s : List ℕ) → Within ws (fields ws s)
unfolding fields
fields_within ws s = unpack_within ws (num (take (size ws) s))

pub length_packed : (ws fs : List ℕ) → length (packed ws fs) ≡ size ws
unfolding packed
length_packed ws fs = length_bytes_of (size ws) (pack ws fs)

pub packed_bytes : (ws fs : List ℕ) → Bytes (packed ws fs)
unfolding packed
packed_bytes ws fs = bytes_of_bytes (size ws) (pack ws fs)

-- only the bytes that the layout fills are read
pub fields_same : (ws s t : List ℕ) → take (size ws) s ≡ take (size ws) t → fields ws s ≡ fields ws t
unfolding fields
fields_same ws s t e = ap (λ (l : List ℕ). unpack ws (num l)) e

pub fields_front : (ws s : List ℕ) → fields ws (take (size ws) s) ≡ fields ws s
fields_front ws s = fields_same ws (take (size ws) s) s (take-take (size ws) (size ws) s (le_refl (size ws)))

pub fields_append : (ws s t : List ℕ) → size ws ≤ length s → fields ws (s ++ t) ≡ fields ws s
fields_append ws s t h = fields_same ws (s ++ t) s (take-append-le (size ws) s t h)

-- fields that are written and read again are the same fields
pub fields_packed : (ws fs rest : List ℕ) → sized ws ≡ true → Within ws fs → fields ws (packed ws fs ++ rest) ≡ fs
unfolding fields packed
fields_packed ws fs rest h w =
    let n = pack ws fs in
    let l : n < 2 ^ (8 * size ws) = subst (λ (x : ℕ). n < 2 ^ x) (sym (sized_whole ws h)) (pack_lt ws fs w) in
    ap (λ (s : List ℕ). unpack ws (num s)) (take_at (bytes_of (size ws) n) rest (size ws) (length_bytes_of (size ws) n))
    ∙ ap (unpack ws) (num_bytes_of (size ws) n ∙ mod-eq_of_lt l)
    ∙ unpack_pack ws fs w

-- a record that is read and written again is the same bytes
pub packed_fields : (ws s : List ℕ) → sized ws ≡ true → size ws ≤ length s → Bytes s → packed ws (fields ws s) ≡ take (size ws) s
unfolding fields packed
packed_fields ws s h l b =
    let t = take (size ws) s in
    let e : length t ≡ size ws = length-take-le (size ws) s l in
    let d : 8 * length t ≡ sum ws = omega (arith, sized_whole ws h) in
    let m : num t < 2 ^ sum ws = subst (λ (x : ℕ). num t < 2 ^ x) d (num_lt t (bytes_take (size ws) s b)) in
    ap (bytes_of (size ws)) (pack_unpack ws (num t) ∙ mod-eq_of_lt m)
    ∙ ap (λ (k : ℕ). bytes_of k (num t)) (sym e) ∙ bytes_num t (bytes_take (size ws) s b)

-- zeros are zeros
pub packed_zeros : (ws : List ℕ) → packed ws (replicate (length ws) 0) ≡ replicate (size ws) 0
unfolding packed
packed_zeros ws = ap (bytes_of (size ws)) (pack_zeros ws) ∙ bytes_of_zero (size ws)

pub fields_zeros : (ws : List ℕ) → fields ws (replicate (size ws) 0) ≡ replicate (length ws) 0
unfolding fields
fields_zeros ws =
    let z : List ℕ = replicate (size ws) 0 in
    let e : length z ≡ size ws = length-replicate {A = ℕ} (size ws) 0 in
    ap (unpack ws) (ap (λ (k : ℕ). num (take k z)) (sym e) ∙ ap num (take-length z) ∙ num_zeros (size ws))
    ∙ unpack_zero ws

-- two layouts in a row
module _ (ws us : List ℕ) (h : sized ws ≡ true) (g : sized us ≡ true) where
  pub size_two : size (ws ++ us) ≡ size ws + size us
  size_two = omega (arith, sum_append ws us, sized_whole ws h, sized_whole us g)

  pub packed_two : (fs gs : List ℕ) → Within ws fs → Within us gs → packed (ws ++ us) (fs ++ gs) ≡ packed ws fs ++ packed us gs
  unfolding packed
  packed_two fs gs v w =
      let e = sized_whole us g in
      let l : pack us gs < 2 ^ (8 * size us) = subst (λ (x : ℕ). pack us gs < 2 ^ x) (sym e) (pack_lt us gs w) in
      ap₂ bytes_of size_two (pack_append ws us fs gs (within_length ws fs v) ∙ ap (λ (x : ℕ). pack ws fs * 2 ^ x + pack us gs) (sym e))
      ∙ bytes_of_append (size ws) (size us) (pack ws fs) (pack us gs) l

  pub fields_two : (s : List ℕ) → size (ws ++ us) ≤ length s → Bytes s → fields (ws ++ us) s ≡ fields ws s ++ fields us (drop (size ws) s)
  unfolding fields
  fields_two s l b =
      let t = take (size us) (drop (size ws) s) in
      let m : length t ≡ size us = length-take-le (size us) (drop (size ws) s) (rw length-drop (omega (arith, size_two))) in
      let e : 8 * length t ≡ sum us = omega (arith, sized_whole us g) in
      let n : num t < 2 ^ sum us =
      subst (λ (x : ℕ). num t < 2 ^ x) e (num_lt t (bytes_take (size us) (drop (size ws) s) (bytes_drop (size ws) s b))) in
      ap (unpack (ws ++ us))
      (ap (λ (k : ℕ). num (take k s)) size_two ∙ ap num (take-add (size ws) (size us) s) ∙ num_append (take (size ws) s) t
      ∙ ap (λ (x : ℕ). num (take (size ws) s) * 2 ^ x + num t) e)
      ∙ unpack_append ws us (num (take (size ws) s)) (num t) n

-- a record in a list: written there, and standing before or after what is written
module _ (ws : List ℕ) (at : ℕ) (s : List ℕ) (l : at ≤ length s) where
  pub fields_written : (fs : List ℕ) → sized ws ≡ true → Within ws fs → fields ws (drop at (over at (packed ws fs) s)) ≡ fs
  fields_written fs h w =
      let p = packed ws fs in
      let e : take (size ws) (drop at (over at p s)) ≡ take (size ws) p =
      rw (← length_packed ws fs) (part_over at p s l ∙ sym (take-length p)) in
      fields_same ws (drop at (over at p s)) p e ∙ ap (fields ws) (sym (append-nil p)) ∙ fields_packed ws fs [] h w

  pub fields_before : (a : ℕ) (t : List ℕ) → a + size ws ≤ at → fields ws (drop a (over at t s)) ≡ fields ws (drop a s)
  fields_before a t h = fields_same ws (drop a (over at t s)) (drop a s) (part_before at t s l a (size ws) h)

  pub fields_after : (a : ℕ) (t : List ℕ) → at + length t ≤ a → fields ws (drop a (over at t s)) ≡ fields ws (drop a s)
  fields_after a t h = fields_same ws (drop a (over at t s)) (drop a s) (part_after at t s l a (size ws) h)

-- a part of just its size that is lent to be written, and has come back
pub packed_lent : (ws fs s : List ℕ) (a e : ℕ) → a + size ws ≡ e → e ≤ length s
    → take a s ++ ((packed ws fs ++ drop (size ws) (take (e - a) (drop a s))) ++ drop (e - a) (drop a s)) ≡ over a (packed ws fs) s
packed_lent ws fs s a e h l =
    let p = packed ws fs in
    let t = take (e - a) (drop a s) in
    let k : length t ≡ e - a = length-take-le (e - a) (drop a s) (rw length-drop (omega arith)) in
    let n : drop (size ws) t ≡ [] = drop_of_length-le t {i = size ws} (omega arith) in
    ap (λ (q : List ℕ). take a s ++ (q ++ drop (e - a) (drop a s))) (ap (λ (q : List ℕ). p ++ q) n ∙ append-nil p)
    ∙ over_lent a e p s (omega (arith, length_packed ws fs))

-- a field is the bits that stand in its place
nth : (ws : List ℕ) (n i : ℕ) → i < length ws → get_or (unpack ws n) i 0 ≡ n / 2 ^ sum (drop (i + 1) ws) % 2 ^ get_or ws i 0
nth [] n i h = absurd (not-suc-le-zero h)
nth (w ∷ ws) n zero h = refl
nth (w ∷ ws) n (suc i) h = nth ws n i (le_of_suc-le-suc h) ∙ rw (add-one, add-one) refl

pub field_bits : (ws s : List ℕ) (i : ℕ) → sized ws ≡ true → size ws ≤ length s → Bytes s → i < length ws
    → get_or (fields ws s) i 0 ≡ bits (sum (take i ws)) (get_or ws i 0) s
unfolding fields
field_bits ws s i h l b k =
    let e : sum (take i ws) + get_or ws i 0 + sum (drop (i + 1) ws) ≡ 8 * size ws =
    rw add-one (omega (arith, sized_whole ws h, ap sum (split_at ws i 0 k), sum_append (take i ws) (get_or ws i 0 ∷ drop (suc i) ws))) in
    nth ws (num (take (size ws) s)) i k ∙ sym (bits_take s (sum (take i ws)) (get_or ws i 0) (sum (drop (i + 1) ws)) (size ws) b l e)
