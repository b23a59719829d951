-- The laws of a write into a list. Assumes nothing.
use Prim.Native.Nat.{ℕ, suc, ◌+◌, ◌-◌, ◌≤◌, ◌<◌}
use mathlib.Core.Path.{◌≡◌, sym, ap, ap₂, ◌∙◌}
use mathlib.Core.List.{List, [], ◌∷◌, ◌++◌, append_assoc, append-nil}
use native.Mathlib.Nat.{add-zero, le_refl}
use native.Mathlib.Numerals.{add-one}
use native.Mathlib.Omega.{arith}
use lib.ListN.{length, take, drop, set, length-append, length-drop, take-append-drop, drop_of_length-le}
use lib.Seq.{length-take-le, take-length, take-append-le, drop-append-le, drop-append-add, take_at, take-take, drop-drop, take-suc-set, drop-set-lt}
use Rattle.layout.specs.Layout.{Bytes}
use Rattle.layout.specs.Over.{over}
use Rattle.layout.proofs.Numbers.{bytes_append, bytes_take, bytes_drop}

-- a part of the first of two lists
pub part_front : (p q : List ℕ) (a n : ℕ) → a + n ≤ length p → take n (drop a (p ++ q)) ≡ take n (drop a p)
part_front p q a n h =
    ap (take n) (drop-append-le a p q (omega arith)) ∙ take-append-le n (drop a p) q (rw length-drop (omega arith))

-- a write of nothing, of all, of a part that was lent and has come back, and of what stood there
pub over_none : (at : ℕ) (s : List ℕ) → over at [] s ≡ s
unfolding over
over_none at s = rw add-zero (take-append-drop at s)

pub over_all : (t s : List ℕ) → length t ≡ length s → over 0 t s ≡ t
unfolding over
over_all t s e = rw (drop_of_length-le s {i = 0 + length t} (omega arith)) (append-nil t)

pub over_lent : (a e : ℕ) (t s : List ℕ) → a + length t ≡ e → take a s ++ (t ++ drop (e - a) (drop a s)) ≡ over a t s
unfolding over
over_lent a e t s h =
    let k : a + (e - a) ≡ a + length t = omega arith in
    ap (λ (l : List ℕ). take a s ++ (t ++ l)) (drop-drop (e - a) a s ∙ ap (λ (n : ℕ). drop n s) k)

pub over_same : (at n : ℕ) (s : List ℕ) → at + n ≤ length s → over at (take n (drop at s)) s ≡ s
unfolding over
over_same at n s h =
    let e : length (take n (drop at s)) ≡ n = length-take-le n (drop at s) (rw length-drop (omega arith)) in
    rw (e, ← drop-drop n at s)
    (ap (λ (l : List ℕ). take at s ++ l) (take-append-drop n (drop at s)) ∙ take-append-drop at s)

pub over_bytes : (at : ℕ) (t s : List ℕ) → Bytes t → Bytes s → Bytes (over at t s)
unfolding over
over_bytes at t s h l =
    bytes_append (take at s) (t ++ drop (at + length t) s) (bytes_take at s l)
    (bytes_append t (drop (at + length t) s) h (bytes_drop (at + length t) s l))

-- a write of one element, and the others after it
pub over_cons : (at b : ℕ) (t s : List ℕ) → at < length s → over at (b ∷ t) s ≡ over (at + 1) t (set s at b)
unfolding over
over_cons at b t s h =
    let e : at + suc (length t) ≡ at + 1 + length t = omega arith in
    let f : take (at + 1) (set s at b) ≡ take at s ++ (b ∷ []) = rw add-one (take-suc-set s at b h) in
    ap (λ (n : ℕ). take at s ++ (b ∷ (t ++ drop n s))) e
    ∙ sym (append_assoc (take at s) (b ∷ []) (t ++ drop (at + 1 + length t) s))
    ∙ ap₂ (λ (p q : List ℕ). p ++ (t ++ q)) (sym f) (sym (drop-set-lt (at + 1 + length t) s at b (omega arith)))

-- a write at an index of the list
module _ (at : ℕ) (t s : List ℕ) (h : at ≤ length s) where
  joined : over at t s ≡ (take at s ++ t) ++ drop (at + length t) s
  unfolding over
  joined = sym (append_assoc (take at s) t (drop (at + length t) s))

  ends : length (take at s ++ t) ≡ at + length t
  ends = simp length-append (omega (arith, length-take-le at s h))

  pub length_over : at + length t ≤ length s → length (over at t s) ≡ length s
  length_over l = rw (joined, length-append, ends, length-drop) (omega arith)

  -- the list before the write, up to its end, and after it
  pub take_over : (n : ℕ) → n ≤ at → take n (over at t s) ≡ take n s
  unfolding over
  take_over n l =
      let e : length (take at s) ≡ at = length-take-le at s h in
      take-append-le n (take at s) _ (omega arith) ∙ take-take n at s l

  pub take_over_end : take (at + length t) (over at t s) ≡ take at s ++ t
  take_over_end = rw joined (take_at (take at s ++ t) _ (at + length t) ends)

  pub drop_over : (n : ℕ) → at + length t ≤ n → drop n (over at t s) ≡ drop n s
  drop_over n l =
      let m = n - (at + length t) in
      let a : n ≡ length (take at s ++ t) + m = omega (arith, ends) in
      let b : at + length t + m ≡ n = omega arith in
      ap₂ drop a joined ∙ drop-append-add (take at s ++ t) (drop (at + length t) s) m
      ∙ drop-drop m (at + length t) s ∙ ap (λ (k : ℕ). drop k s) b

  -- a part before the write, after it, in it, and the part that was written
  pub part_before : (a n : ℕ) → a + n ≤ at → take n (drop a (over at t s)) ≡ take n (drop a s)
  unfolding over
  part_before a n l =
      let e : length (take at s) ≡ at = length-take-le at s h in
      part_front (take at s) _ a n (omega arith)
      ∙ sym (part_front (take at s) (drop at s) a n (omega arith))
      ∙ ap (λ (l : List ℕ). take n (drop a l)) (take-append-drop at s)

  pub part_after : (a n : ℕ) → at + length t ≤ a → take n (drop a (over at t s)) ≡ take n (drop a s)
  part_after a n l = ap (take n) (drop_over a l)

  pub part_in : (k n : ℕ) → k + n ≤ length t → take n (drop (at + k) (over at t s)) ≡ take n (drop k t)
  unfolding over
  part_in k n l =
      let e : at + k ≡ length (take at s) + k = omega (arith, length-take-le at s h) in
      ap (λ (x : ℕ). take n (drop x (over at t s))) e
      ∙ ap (take n) (drop-append-add (take at s) (t ++ drop (at + length t) s) k)
      ∙ part_front t (drop (at + length t) s) k n l

  pub part_over : take (length t) (drop at (over at t s)) ≡ t
  part_over =
      ap (λ (x : ℕ). take (length t) (drop x (over at t s))) (sym (add-zero at))
      ∙ part_in 0 (length t) (omega arith) ∙ take-length t

  -- a write beside it, and one in its place
  pub over_next : (u : List ℕ) → over (at + length t) u (over at t s) ≡ over at (t ++ u) s
  unfolding over
  over_next u =
      let e : at + length (t ++ u) ≡ at + length t + length u = simp length-append (omega arith) in
      ap₂ (λ (a b : List ℕ). a ++ (u ++ b)) take_over_end (drop_over (at + length t + length u) (omega arith))
      ∙ append_assoc (take at s) t _
      ∙ ap (λ (l : List ℕ). take at s ++ l)
      (sym (append_assoc t u _) ∙ ap (λ (x : ℕ). (t ++ u) ++ drop x s) (sym e))

  pub over_again : (u : List ℕ) → length u ≡ length t → over at u (over at t s) ≡ over at u s
  unfolding over
  over_again u e =
      ap₂ (λ (a b : List ℕ). a ++ (u ++ b)) (take_over at (le_refl at)) (drop_over (at + length u) (omega arith))

-- a write over the second part of what was written
pub over_tail : (at : ℕ) (t u v s : List ℕ) → at + length t ≤ length s → length v ≡ length u
    → over (at + length t) v (over at (t ++ u) s) ≡ over at (t ++ v) s
over_tail at t u v s h e =
    let n : length (over at t s) ≡ length s = length_over at t s (omega arith) h in
    ap (over (at + length t) v) (sym (over_next at t s (omega arith) u))
    ∙ over_again (at + length t) u (over at t s) (omega arith) v e
    ∙ over_next at t s (omega arith) v
