-- Texts written one after another make one text, and the turns of the loops that write digits.
-- Assumes nothing.
use Prim.Native.Nat.{ℕ, zero, suc, ◌+◌, ◌-◌, ◌/◌, ◌≤◌}
use mathlib.Core.Path.{◌≡◌, refl, sym, ap, ap₂, ◌∙◌}
use mathlib.Core.List.{List, [], ◌∷◌, ◌++◌, append_assoc, append-nil}
use native.Mathlib.Decide.{dec_le}
use native.Mathlib.Omega.{arith}
use lib.ListN.{length, drop, set, length-append, length-drop, length-set, drop_of_length-le}
use Rattle.std.proofs.lemmas.List.{take_all}
use lib.Seq.{length-take-le, drop-cons, drop-set-lt, get_or-set_same}
use Rattle.layout.specs.Over.{over}
use Rattle.layout.proofs.Writes.{over_none, over_cons, over_next}
use Rattle.text.specs.Text.{digit, last_digits}

-- ---- one text after another

-- past the end of a list a write goes behind it
over_past : (at : ℕ) (t s : List ℕ) → length s ≤ at → over at t s ≡ s ++ t
unfolding over
over_past at t s h =
    rw (take_all at s h, drop_of_length-le s {i = at + length t} (omega arith), append-nil t) refl

-- a write where another ended makes one write with it
pub over_after : (at : ℕ) (t u s : List ℕ) → over (at + length t) u (over at t s) ≡ over at (t ++ u) s
over_after at t u s = go (dec_le at (length s))
  where
    go : Dec (at ≤ length s) → over (at + length t) u (over at t s) ≡ over at (t ++ u) s
    go (yes h) = over_next at t s h u
    go (no h) =
        let l : length (s ++ t) ≤ at + length t = rw length-append (omega arith) in
        ap (over (at + length t) u) (over_past at t s (omega arith)) ∙ over_past (at + length t) u (s ++ t) l
        ∙ append_assoc s t u ∙ sym (over_past at (t ++ u) s (omega arith))

-- no write makes a list shorter
over_long_in : (at : ℕ) (t s : List ℕ) → at ≤ length s → length s ≤ length (over at t s)
unfolding over
over_long_in at t s h = simp (length-append, length-drop) (omega (arith, length-take-le at s h))

pub over_long : (at : ℕ) (t s : List ℕ) → length s ≤ length (over at t s)
over_long at t s = go (dec_le at (length s))
  where
    go : Dec (at ≤ length s) → length s ≤ length (over at t s)
    go (yes h) = over_long_in at t s h
    go (no h) = rw (over_past at t s (omega arith), length-append) (omega arith)

-- one byte
pub over_one : (at b : ℕ) (s : List ℕ) → at + 1 ≤ length s → set s at b ≡ over at (b ∷ []) s
over_one at b s h = sym (over_cons at b [] s (omega arith) ∙ over_none (at + 1) (set s at b))

-- ---- the turns

-- digits from the last to the first: f has the text of so many digits, which is that of one digit less, and d.
-- What is left to write, and then what is written, is the whole
module _ (f : ℕ → ℕ → List ℕ) (less d : ℕ → ℕ)
    (more : (w x : ℕ) → f (suc w) x ≡ f w (less x) ++ (d x ∷ []))
    (none : (x : ℕ) → f 0 x ≡ []) where
  pub length_by : (w x : ℕ) → length (f w x) ≡ w
  length_by zero x = ap length (none x)
  length_by (suc w) x = ap length (more w x) ∙ length-append (f w (less x)) (d x ∷ []) ∙ omega (arith, length_by w (less x))

  pub digits_begun : (o : List ℕ) (w x : ℕ) → length o ≤ w → f w x ++ drop w o ≡ f w x
  digits_begun o w x h = rw (drop_of_length-le o {i = w} h) (append-nil (f w x))

  -- one digit less is left
  pub digit_put : (o g : List ℕ) (left x : ℕ) → 1 ≤ left → left ≤ length o → f left x ++ drop left o ≡ g
      → f (left - 1) (less x) ++ drop (left - 1) (set o (left - 1) (d x)) ≡ g
  digit_put o g left x h l e =
      let j = left - 1 in
      let k : left ≡ suc j = omega arith in
      let m : length (set o j (d x)) ≡ length o = length-set o j (d x) in
      let u : drop j (set o j (d x)) ≡ d x ∷ drop (suc j) o =
      drop-cons (set o j (d x)) j 0 (omega arith)
      ∙ ap₂ (λ (x : ℕ) (y : List ℕ). x ∷ y) (get_or-set_same o j (d x) 0 (omega arith)) (drop-set-lt (suc j) o j (d x) (omega arith)) in
      ap (λ (l : List ℕ). f j (less x) ++ l) u ∙ sym (append_assoc (f j (less x)) (d x ∷ []) (drop (suc j) o))
      ∙ ap (λ (l : List ℕ). l ++ drop (suc j) o) (sym (more j x)) ∙ ap (λ (n : ℕ). f n x ++ drop n o) (sym k) ∙ e

  pub digits_done : (o g : List ℕ) (left x : ℕ) → left ≤ 0 → f left x ++ drop left o ≡ g → o ≡ g
  digits_done o g left x h e =
      let k : left ≡ 0 = omega arith in
      ap (λ (l : List ℕ). l ++ o) (sym (none x)) ∙ ap (λ (j : ℕ). f j x ++ drop j o) (sym k) ∙ e

-- decimal digits
pub decimal_begun : (o : List ℕ) (w x : ℕ) → length o ≤ w → last_digits w x ++ drop w o ≡ last_digits w x
unfolding last_digits
decimal_begun = digits_begun last_digits (λ x. x / 10) digit (λ w x. refl) (λ x. refl)

pub decimal_put : (o g : List ℕ) (left x : ℕ) → 1 ≤ left → left ≤ length o → last_digits left x ++ drop left o ≡ g
    → last_digits (left - 1) (x / 10) ++ drop (left - 1) (set o (left - 1) (digit x)) ≡ g
unfolding last_digits
decimal_put = digit_put last_digits (λ x. x / 10) digit (λ w x. refl) (λ x. refl)

pub decimal_done : (o g : List ℕ) (left x : ℕ) → left ≤ 0 → last_digits left x ++ drop left o ≡ g → o ≡ g
unfolding last_digits
decimal_done = digits_done last_digits (λ x. x / 10) digit (λ w x. refl) (λ x. refl)
