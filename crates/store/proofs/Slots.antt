-- The laws of slots, once for every party: what is written is read again, what is read is written again, and a write changes one slot.
-- Assumes nothing.
use Rattle.std.specs.Prelude.{Some, None}
use Rattle.std.specs.Bool.{MatchBool}
use Rattle.std.specs.List.{AllWithin, HoldsAt, range_with_len}
use Rattle.std.proofs.lemmas.List.FromFn.{length-range_with_len, get_or-range_with_len}
use Prim.Native.Nat.{ℕ, zero, suc, ◌+◌, ◌*◌, ◌-◌, ◌≤◌, ◌<◌}
use mathlib.Core.Path.{◌≡◌, refl, sym, ap, ap₂, ◌∙◌, subst}
use mathlib.Core.Logic.{◌⊎◌, inl, inr, ⊎_elim}
use mathlib.Core.Bool.{Bool, true, false, cond, not, ◌&&◌, ◌||◌, true≢false}
use mathlib.Core.List.{List, [], ◌∷◌, ◌++◌, append_assoc, append-nil}
use mathlib.Core.Option.{Option, none, some}
use native.Mathlib.Nat.{add-zero, zero-add, zero-mul, suc-mul, add_comm}
use native.Mathlib.Omega.{arith}
use borrow.Author.Tests.{eqb-true, eq-eqb, ne_eqb}
use lib.Dec.{eqb, lit<}
use lib.ListN.{length, get_or, take, drop, set, replicate, length-append, length-drop, length-replicate, take-append-drop, replicate-append-replicate, drop_of_length-le}
use lib.Seq.{get_or-take, get_or-drop, length-take-le, take_all, take_at, drop_at, take-add, take-append-add, drop-append-add, drop-drop}
use lib.Pow.{pow_pos}
use Rattle.layout.specs.Layout.{Within, Bytes, sum, size, sized, bits, fields, packed}
use Rattle.layout.specs.Over.{over}
use Rattle.layout.proofs.Numbers.{bytes_append, bytes_take, bytes_drop, bits_take, num_snoc, num_none}
use Rattle.layout.proofs.Bounds.{both}
use Rattle.layout.proofs.Laws.{sized_whole, length_fields, fields_within, length_packed, packed_bytes, fields_packed, packed_fields, packed_zeros, fields_zeros, field_bits}
use Rattle.road.specs.Fields.{Fit}
use Rattle.road.proofs.Rows.{record_fit}
use Rattle.store.specs.Slots.{Party, Slot, empty, used, torn, all_zero, party_layout, slot_size, slot_by, slot_of, slot_bytes, is_torn, entry_of, read_by, entry, slot_at, slots, entries, any_torn, bytes, Each}

pub either_false : (x y : Bool) → (x || y) ≡ false → (x ≡ false) × (y ≡ false)
either_false true y e = absurd (true≢false e)
either_false false y e = (refl, e)

pub all_zero_lem : (vs : List ℕ) → all_zero vs ≡ true → vs ≡ replicate (length vs) 0
all_zero_lem [] h = refl
all_zero_lem (v ∷ vs) h =
    let t = both (eqb v 0) (all_zero vs) h in
    ap₂ (λ (x : ℕ) (l : List ℕ). x ∷ l) (eqb-true v 0 t.0) (all_zero_lem vs t.1)

zeros_are : (n : ℕ) → all_zero (replicate n 0) ≡ true
zeros_are zero = refl
zeros_are (suc n) = zeros_are n

mark_shows : (vs : List ℕ) → get_or vs 0 0 ≡ 1 → all_zero vs ≡ false
mark_shows [] e = absurd (omega arith)
mark_shows (v ∷ vs) e = ap (λ (m : ℕ). eqb m 0 && all_zero vs) e

pub alike_bytes : (n x : ℕ) → x < 256 → Bytes (replicate n x)
alike_bytes zero x h i = lit< tt
alike_bytes (suc n) x h zero = h
alike_bytes (suc n) x h (suc i) = alike_bytes n x h i

pub zeros_within : (ws : List ℕ) → Within ws (replicate (length ws) 0)
zeros_within [] = tt
zeros_within (w ∷ ws) = (pow_pos w, zeros_within ws)

pub two_within : (ws us vs xs : List ℕ) → Within ws vs → Within us xs → Within (ws ++ us) (vs ++ xs)
two_within [] us [] xs h l = l
two_within [] us (v ∷ vs) xs h l = absurd h
two_within (w ∷ ws) us [] xs h l = absurd h
two_within (w ∷ ws) us (v ∷ vs) xs h l = (h.0, two_within ws us vs xs h.1 l)

-- numbers that were read have the widths of their layout, one by one
pub fields_fit : (ws s v : List ℕ) → v ≡ fields ws s → Fit ws 0 v
fields_fit ws s v e =
    record_fit ws v
    (subst (λ (t : List ℕ). Within ws (take (length ws) t)) (sym e)
    (subst (Within ws) (sym (take_all (length ws) (fields ws s) (omega (arith, length_fields ws s)))) (fields_within ws s)))

-- what a look at each number tells
all_noughts : (vs : List ℕ) → ((k : ℕ) → k < length vs → get_or vs k 0 ≡ 0) → all_zero vs ≡ true
all_noughts [] h = refl
all_noughts (v ∷ vs) h = ap₂ (λ (a b : Bool). a && b) (eq-eqb v 0 (h 0 (omega arith))) (all_noughts vs (λ k l. h (suc k) (omega arith)))

one_not_nought : (vs : List ℕ) (k : ℕ) → k < length vs → (get_or vs k 0 ≡ 0 → ⊥) → all_zero vs ≡ false
one_not_nought [] k l n = absurd (omega arith)
one_not_nought (v ∷ vs) zero l n = ap (λ (b : Bool). b && all_zero vs) (ne_eqb v 0 n)
one_not_nought (v ∷ vs) (suc k) l n = ap (λ (b : Bool). eqb v 0 && b) (one_not_nought vs k (omega arith) n) ∙ neither (eqb v 0)
  where
    neither : (b : Bool) → (b && false) ≡ false
    neither true = refl
    neither false = refl

pub zeros_by : (vs : List ℕ) (r : Bool)
    → MatchBool r (AllWithin (λ (x : ℕ). x ≡ 0) vs 0 (length vs)) ((k : ℕ) × (k < length vs) × HoldsAt (λ (x : ℕ). x ≡ 0 → ⊥) vs k) → r ≡ all_zero vs
zeros_by vs true h = sym (all_noughts vs (λ k l. h k 0 (omega arith) l))
zeros_by vs false h = sym (one_not_nought vs h.0 h.1 (h.2 0))

-- a write over the first of two lists, and behind it
over_first : (t x s : List ℕ) → length x ≡ length t → over 0 t (x ++ s) ≡ t ++ s
unfolding over
over_first t x s e = ap (λ (l : List ℕ). t ++ l) (drop_at x s (0 + length t) (omega arith))

pub over_behind : (x t s : List ℕ) (k at : ℕ) → length x ≡ k → over (k + at) t (x ++ s) ≡ x ++ over at t s
unfolding over
over_behind x t s k at e =
    let a : take (k + at) (x ++ s) ≡ x ++ take at s = rw (← e) (take-append-add x s at) in
    let j : k + at + length t ≡ length x + (at + length t) = omega arith in
    let b : drop (k + at + length t) (x ++ s) ≡ drop (at + length t) s = rw j (drop-append-add x s (at + length t)) in
    rw (a, b) (append_assoc x (take at s) _)

-- the first eight bits are the first byte
first_bits : (s : List ℕ) → Bytes s → 1 ≤ length s → bits 0 8 s ≡ get_or s 0 0
first_bits s b h = bits_take s 0 8 0 1 b h refl ∙ omega (arith, num_snoc s 0 (omega arith), num_none, b 0)

-- the bytes from a slot on, lent to be written, and come back
pub lent_back : (ws vs s : List ℕ) (at : ℕ) → at ≤ length s
    → take at s ++ ((packed ws vs ++ drop (size ws) (take (length s - at) (drop at s))) ++ drop (length s - at) (drop at s)) ≡ over at (packed ws vs) s
unfolding over
lent_back ws vs s at h =
    let n = length s - at in
    let r = drop at s in
    let l : length r ≤ n = rw (length-drop at s) (omega arith) in
    let e : drop (size ws) r ≡ drop (at + length (packed ws vs)) s = drop-drop (size ws) at s ∙ ap (λ (k : ℕ). drop (at + k) s) (sym (length_packed ws vs)) in
    ap (λ (t : List ℕ). take at s ++ t)
    (ap₂ (λ (x y : List ℕ). (packed ws vs ++ drop (size ws) x) ++ y) (take_all n r l) (drop_of_length-le r {i = n} l)
    ∙ append-nil (packed ws vs ++ drop (size ws) r) ∙ ap (λ (t : List ℕ). packed ws vs ++ t) e)

-- what the laws of slots ask of a party: its layout is one that the code can handle; its fields come back if they are okay, and so does one that may stand
-- in the book, which fits its layout
pub record Lawful {A : Type 0} (p : Party A) (Stands : A → Type 0) : Type 0 where
  pub handled : sized (party_layout p) ≡ true
  pub refilled : (m : ℕ) (fs : List ℕ) → length fs ≡ length p.widths → p.ok (m ∷ fs) ≡ true → p.to (p.from (m ∷ fs)) ≡ fs
  pub reread : (a : A) → Stands a → p.from (1 ∷ p.to a) ≡ a
  pub fits : (a : A) → Stands a → Within (party_layout p) (1 ∷ p.to a)
  pub okay : (a : A) → Stands a → p.ok (1 ∷ p.to a) ≡ true
  pub stands : (vs : List ℕ) → p.ok vs ≡ true → Stands (p.from vs)

-- ---- one slot

-- a slot that is not torn is all zero, or has the mark 1 and what may be in the book
abbrev pub Whole : {A : Type 0} → Party A → List ℕ → Type 0
Whole p vs =
    ((all_zero vs ≡ true) × (slot_by p vs ≡ empty))
    ⊎ ((get_or vs 0 0 ≡ 1) × (p.ok vs ≡ true) × (slot_by p vs ≡ used (p.from vs)))

module _ {A : Type 0} (p : Party A) where
  pub whole : (vs : List ℕ) → is_torn (slot_by p vs) ≡ false → Whole p vs
  unfolding slot_by
  whole vs h = first (all_zero vs) refl
    where
      second : all_zero vs ≡ false → (b : Bool) → (eqb (get_or vs 0 0) 1 && p.ok vs) ≡ b → Whole p vs
      second e true f =
          let t = both (eqb (get_or vs 0 0) 1) (p.ok vs) f in
          inr (eqb-true (get_or vs 0 0) 1 t.0, t.1, simp (e, f))
      second e false f = absurd (true≢false (simp (e, f) at h))

      first : (b : Bool) → all_zero vs ≡ b → Whole p vs
      first true e = inl (e, simp e)
      first false e = second e (eqb (get_or vs 0 0) 1 && p.ok vs) refl

  unused : (vs : List ℕ) → all_zero vs ≡ true → slot_by p vs ≡ empty
  unfolding slot_by
  unused vs e = simp e

  -- the tests of the code, in its order: without the mark 1 zeros decide, with it what may be in the book
  pub torn_unmarked : (vs : List ℕ) → (get_or vs 0 0 ≡ 1 → ⊥) → is_torn (slot_by p vs) ≡ not (all_zero vs)
  unfolding slot_by
  torn_unmarked vs f = simp (ne_eqb (get_or vs 0 0) 1 f) (turned (all_zero vs))
    where
      turned : (b : Bool) → is_torn {A = A} (cond b empty torn) ≡ not b
      turned true = refl
      turned false = refl

  pub torn_marked : (vs : List ℕ) → get_or vs 0 0 ≡ 1 → is_torn (slot_by p vs) ≡ not (p.ok vs)
  unfolding slot_by
  torn_marked vs f = simp (mark_shows vs f, eq-eqb (get_or vs 0 0) 1 f) (turned (p.ok vs))
    where
      turned : (b : Bool) → is_torn (cond b (used (p.from vs)) torn) ≡ not b
      turned true = refl
      turned false = refl

  pub length_slot : (o : Option A) → length (slot_bytes p o) ≡ slot_size p
  unfolding slot_bytes
  length_slot none = length-replicate {A = ℕ} (slot_size p) _
  length_slot (some a) = length_packed (party_layout p) (1 ∷ p.to a)

  pub slot_bytes_lem : (o : Option A) → Bytes (slot_bytes p o)
  unfolding slot_bytes
  slot_bytes_lem none = alike_bytes (slot_size p) _ (lit< tt)
  slot_bytes_lem (some a) = packed_bytes (party_layout p) (1 ∷ p.to a)

  -- a slot as its mark says is the slot as it is found, where it is not torn
  pub marked : (vs : List ℕ) → is_torn (slot_by p vs) ≡ false → entry_of (slot_by p vs) ≡ entry (read_by p vs)
  marked vs h =
      ⊎_elim
      (λ (w : (all_zero vs ≡ true) × (slot_by p vs ≡ empty)). ap entry_of w.1 ∙ unmarked vs w.0)
      (λ (w : (get_or vs 0 0 ≡ 1) × (p.ok vs ≡ true) × (slot_by p vs ≡ used (p.from vs))).
      ap entry_of w.2 ∙ sym (ap (λ (m : ℕ). entry (cond (eqb m 1) (Some (p.from vs)) None)) w.0))
      (whole vs h)
    where
      nought : (n : ℕ) → entry (cond (eqb (get_or (replicate n 0) 0 0) 1) (Some (p.from vs)) None) ≡ none
      nought zero = refl
      nought (suc n) = refl

      unmarked : (l : List ℕ) → all_zero l ≡ true → none ≡ entry (cond (eqb (get_or l 0 0) 1) (Some (p.from vs)) None)
      unmarked l e = sym (ap (λ (m : List ℕ). entry (cond (eqb (get_or m 0 0) 1) (Some (p.from vs)) None)) (all_zero_lem l e) ∙ nought (length l))

  -- what a look at the first byte of a slot tells of it
  mark_in : (s : List ℕ) (at : ℕ) → sized (party_layout p) ≡ true → Bytes s → at + slot_size p ≤ length s
      → get_or (fields (party_layout p) (take (slot_size p) (drop at s))) 0 0 ≡ get_or s at 0
  mark_in s at h b l =
      let t = take (slot_size p) (drop at s) in
      let k : length t ≡ slot_size p = length-take-le (slot_size p) (drop at s) (omega (arith, length-drop at s)) in
      let o : 8 * slot_size p ≡ sum (party_layout p) = sized_whole (party_layout p) h in
      let c : Bytes t = bytes_take (slot_size p) (drop at s) (bytes_drop at s b) in
      field_bits (party_layout p) t 0 h (omega (arith, k)) c (omega arith) ∙ first_bits t c (omega (arith, k, o))
      ∙ get_or-take (slot_size p) (drop at s) 0 0 (omega (arith, o)) ∙ get_or-drop at s 0 0 ∙ ap (λ (n : ℕ). get_or s n 0) (add-zero at)

  pub unmarked_slot : (s : List ℕ) (at : ℕ) → sized (party_layout p) ≡ true → Bytes s → at + slot_size p ≤ length s
      → eqb (get_or s at 0) 1 ≡ false → None ≡ read_by p (fields (party_layout p) (take (slot_size p) (drop at s)))
  unmarked_slot s at h b l f =
      let vs = fields (party_layout p) (take (slot_size p) (drop at s)) in
      sym (ap (λ (m : ℕ). cond (eqb m 1) (Some (p.from vs)) None) (mark_in s at h b l) ∙ ap (λ (t : Bool). cond t (Some (p.from vs)) None) f)

  pub marked_slot : (s : List ℕ) (at : ℕ) (a : A) → sized (party_layout p) ≡ true → Bytes s → at + slot_size p ≤ length s
      → eqb (get_or s at 0) 1 ≡ true → a ≡ p.from (fields (party_layout p) (take (slot_size p) (drop at s)))
      → Some a ≡ read_by p (fields (party_layout p) (take (slot_size p) (drop at s)))
  marked_slot s at a h b l f e =
      let vs = fields (party_layout p) (take (slot_size p) (drop at s)) in
      ap (λ (x : A). Some x) e
      ∙ sym (ap (λ (m : ℕ). cond (eqb m 1) (Some (p.from vs)) None) (mark_in s at h b l) ∙ ap (λ (t : Bool). cond t (Some (p.from vs)) None) f)

  module _ (Stands : A → Type 0) (law : Lawful p Stands) where
    -- numbers with the mark 1 are those of what they describe
    again : (vs : List ℕ) → length vs ≡ suc (length p.widths) → get_or vs 0 0 ≡ 1 → p.ok vs ≡ true → 1 ∷ p.to (p.from vs) ≡ vs
    again [] l e o = absurd (omega arith)
    again (m ∷ fs) l e o = ap₂ (λ (x : ℕ) (t : List ℕ). x ∷ t) (sym e) (law.refilled m fs (omega arith) o)

    -- what is read is written again
    pub rewritten : (s : List ℕ) → length s ≡ slot_size p → Bytes s → is_torn (slot_of p s) ≡ false → slot_bytes p (entry_of (slot_of p s)) ≡ s
    unfolding slot_of slot_bytes
    rewritten s l b h =
        let ws = party_layout p in
        let vs = fields ws s in
        let n : length vs ≡ length ws = length_fields ws s in
        let e : packed ws vs ≡ s = packed_fields ws s law.handled (omega arith) b ∙ take_all (slot_size p) s (omega arith) in
        ⊎_elim
        (λ (w : (all_zero vs ≡ true) × (slot_by p vs ≡ empty)).
        ap (λ (t : Slot A). slot_bytes p (entry_of t)) w.1 ∙ sym (packed_zeros ws)
        ∙ ap (packed ws) (ap (λ (k : ℕ). replicate k 0) (sym n) ∙ sym (all_zero_lem vs w.0)) ∙ e)
        (λ (w : (get_or vs 0 0 ≡ 1) × (p.ok vs ≡ true) × (slot_by p vs ≡ used (p.from vs))).
        ap (λ (t : Slot A). slot_bytes p (entry_of t)) w.2 ∙ ap (packed ws) (again vs n w.0 w.1) ∙ e)
        (whole vs h)

    -- what is written is read again
    pub reread_none : slot_of p (slot_bytes p none) ≡ empty
    unfolding slot_of slot_bytes
    reread_none =
        ap (slot_by p) (fields_zeros (party_layout p)) ∙ unused (replicate (length (party_layout p)) 0) (zeros_are (length (party_layout p)))

    pub reread_some : (a : A) → Stands a → slot_of p (slot_bytes p (some a)) ≡ used a
    unfolding slot_of slot_by slot_bytes
    reread_some a h =
        let ws = party_layout p in
        let vs : List ℕ = 1 ∷ p.to a in
        ap (slot_by p) (ap (fields ws) (sym (append-nil (packed ws vs))) ∙ fields_packed ws vs [] law.handled (law.fits a h))
        ∙ ap (λ (b : Bool). cond b (used (p.from vs)) torn) (law.okay a h)
        ∙ ap (λ (x : A). used x) (law.reread a h)

    -- who is in a slot stands
    pub entry_stands : (vs : List ℕ) (a : A) → is_torn (slot_by p vs) ≡ false → entry_of (slot_by p vs) ≡ some a → Stands a
    entry_stands vs a h e =
        ⊎_elim
        (λ (w : (all_zero vs ≡ true) × (slot_by p vs ≡ empty)). let z : none ≡ some a = sym (ap entry_of w.1) ∙ e in absurd (let y : ◌≡◌ {A = ℕ} 0 1 = cc in omega arith))
        (λ (w : (get_or vs 0 0 ≡ 1) × (p.ok vs ≡ true) × (slot_by p vs ≡ used (p.from vs))).
        let z : some (p.from vs) ≡ some a = sym (ap entry_of w.2) ∙ e in
        let y : p.from vs ≡ a = cc in
        subst Stands y (law.stands vs w.1))
        (whole vs h)

-- who is in the slot at the front of bytes, as its mark says
abbrev pub who_in : {A : Type 0} → Party A → List ℕ → Option A
who_in p s = entry (read_by p (fields (party_layout p) s))

-- slots that begin at the start of the bytes
pub from_start : {A : Type 0} (p : Party A) (s : List ℕ) (i : ℕ)
    → fields (party_layout p) (take (slot_size p) (drop (0 + i * slot_size p) s)) ≡ fields (party_layout p) (slot_at p i s)
from_start p s i = ap (λ (m : ℕ). fields (party_layout p) (take (slot_size p) (drop m s))) (zero-add (i * slot_size p))

-- ---- slots side by side

next_slot : (i w : ℕ) → suc i * w ≡ w + i * w
next_slot i w = suc-mul i w ∙ add_comm (i * w) w

module _ {A : Type 0} (p : Party A) where
  pub length_bytes : (l : List (Option A)) → length (bytes p l) ≡ length l * slot_size p
  unfolding bytes
  length_bytes [] = sym (zero-mul (slot_size p))
  length_bytes (o ∷ l) =
      length-append (slot_bytes p o) (bytes p l) ∙ ap₂ ◌+◌ (length_slot p o) (length_bytes l) ∙ sym (next_slot (length l) (slot_size p))

  pub bytes_none : (n : ℕ) → bytes p (replicate n none) ≡ replicate (n * slot_size p) 0
  unfolding bytes slot_bytes
  bytes_none zero = ap (λ (k : ℕ). replicate k 0) (sym (zero-mul (slot_size p)))
  bytes_none (suc n) =
      ap (λ (t : List ℕ). replicate (slot_size p) 0 ++ t) (bytes_none n)
      ∙ replicate-append-replicate (slot_size p) (n * slot_size p) 0 ∙ ap (λ (k : ℕ). replicate k 0) (sym (next_slot n (slot_size p)))

  pub bytes_are : (l : List (Option A)) → Bytes (bytes p l)
  unfolding bytes
  bytes_are [] i = lit< tt
  bytes_are (o ∷ l) i = bytes_append (slot_bytes p o) (bytes p l) (slot_bytes_lem p o) (bytes_are l) i

  pub length_entries : (n : ℕ) (s : List ℕ) → length (entries (slots p n s)) ≡ n
  unfolding slots
  length_entries zero s = refl
  length_entries (suc n) s = ap suc (length_entries n (drop (slot_size p) s))

  -- slot i behind the first slot is slot i + 1
  behind : (i : ℕ) (s : List ℕ) → slot_at p i (drop (slot_size p) s) ≡ slot_at p (suc i) s
  behind i s =
      ap (take (slot_size p)) (drop-drop (i * slot_size p) (slot_size p) s ∙ ap (λ (k : ℕ). drop k s) (sym (next_slot i (slot_size p))))

  front : (s : List ℕ) → take (slot_size p) s ≡ slot_at p 0 s
  front s = ap (λ (k : ℕ). take (slot_size p) (drop k s)) (sym (zero-mul (slot_size p)))

  -- the entry at i is who is in slot i
  pub entry_at : (n i : ℕ) (s : List ℕ) → i < n → get_or (entries (slots p n s)) i none ≡ entry_of (slot_of p (slot_at p i s))
  unfolding slots
  entry_at zero i s h = absurd (omega arith)
  entry_at (suc n) zero s h = ap (λ (t : List ℕ). entry_of (slot_of p t)) (front s)
  entry_at (suc n) (suc i) s h =
      entry_at n i (drop (slot_size p) s) (omega arith) ∙ ap (λ (t : List ℕ). entry_of (slot_of p t)) (behind i s)

  -- where none is torn, slot i is not
  pub whole_at : (n i : ℕ) (s : List ℕ) → i < n → any_torn (slots p n s) ≡ false → is_torn (slot_of p (slot_at p i s)) ≡ false
  unfolding slots any_torn
  whole_at zero i s h e = absurd (omega arith)
  whole_at (suc n) zero s h e =
      ap (λ (t : List ℕ). is_torn (slot_of p t)) (sym (front s))
      ∙ (either_false (is_torn (slot_of p (take (slot_size p) s))) (any_torn (slots p n (drop (slot_size p) s))) e).0
  whole_at (suc n) (suc i) s h e =
      ap (λ (t : List ℕ). is_torn (slot_of p t)) (sym (behind i s))
      ∙ whole_at n i (drop (slot_size p) s) (omega arith)
      (either_false (is_torn (slot_of p (take (slot_size p) s))) (any_torn (slots p n (drop (slot_size p) s))) e).1

  -- slot i of what stands from index at on
  pub place : (at i : ℕ) (s : List ℕ) → slot_at p i (drop at s) ≡ take (slot_size p) (drop (at + i * slot_size p) s)
  place at i s = ap (take (slot_size p)) (drop-drop (i * slot_size p) at s)

  -- where none is torn, the entry at i is what the mark of slot i says
  pub entry_is : (n i : ℕ) (s : List ℕ) → i < n → any_torn (slots p n s) ≡ false → get_or (entries (slots p n s)) i none ≡ who_in p (slot_at p i s)
  unfolding slot_of
  entry_is n i s h e = entry_at n i s h ∙ marked p _ (whole_at n i s h e)

  -- a write of a slot is a change of one entry
  pub set_bytes : (l : List (Option A)) (i : ℕ) (o : Option A) (rest : List ℕ) → i < length l
      → over (i * slot_size p) (slot_bytes p o) (bytes p l ++ rest) ≡ bytes p (set l i o) ++ rest
  unfolding bytes
  set_bytes [] i o rest h = absurd (omega arith)
  set_bytes (q ∷ l) zero o rest h =
      ap₂ (λ (k : ℕ) (s : List ℕ). over k (slot_bytes p o) s) (zero-mul (slot_size p)) (append_assoc (slot_bytes p q) (bytes p l) rest)
      ∙ over_first (slot_bytes p o) (slot_bytes p q) (bytes p l ++ rest) (length_slot p q ∙ sym (length_slot p o))
      ∙ sym (append_assoc (slot_bytes p o) (bytes p l) rest)
  set_bytes (q ∷ l) (suc i) o rest h =
      ap₂ (λ (k : ℕ) (s : List ℕ). over k (slot_bytes p o) s) (next_slot i (slot_size p)) (append_assoc (slot_bytes p q) (bytes p l) rest)
      ∙ over_behind (slot_bytes p q) (slot_bytes p o) (bytes p l ++ rest) (slot_size p) (i * slot_size p) (length_slot p q)
      ∙ ap (λ (s : List ℕ). slot_bytes p q ++ s) (set_bytes l i o rest (omega arith))
      ∙ sym (append_assoc (slot_bytes p q) (bytes p (set l i o)) rest)

  pub set_behind : (x : List ℕ) (at : ℕ) (l : List (Option A)) (i : ℕ) (o : Option A) (rest : List ℕ) → length x ≡ at → i < length l
      → over (at + i * slot_size p) (slot_bytes p o) (x ++ (bytes p l ++ rest)) ≡ x ++ (bytes p (set l i o) ++ rest)
  set_behind x at l i o rest e h =
      over_behind x (slot_bytes p o) (bytes p l ++ rest) at (i * slot_size p) e ∙ ap (λ (s : List ℕ). x ++ s) (set_bytes l i o rest h)

  -- n slots without a tear are the bytes of their entries
  module _ (Stands : A → Type 0) (law : Lawful p Stands) where
    pub bytes_slots : (n : ℕ) (s : List ℕ) → n * slot_size p ≤ length s → Bytes s → any_torn (slots p n s) ≡ false
        → bytes p (entries (slots p n s)) ≡ take (n * slot_size p) s
    unfolding slots bytes any_torn
    bytes_slots zero s l b h = sym (ap (λ (k : ℕ). take k s) (zero-mul (slot_size p)))
    bytes_slots (suc n) s l b h =
        let w = slot_size p in
        let c = take w s in
        let m : suc n * w ≡ w + n * w = next_slot n w in
        let t = either_false (is_torn (slot_of p c)) (any_torn (slots p n (drop w s))) h in
        let e : length c ≡ w = length-take-le w s (omega arith) in
        let k : n * w ≤ length (drop w s) = rw (length-drop w s) (omega arith) in
        ap₂ (λ (a : List ℕ) (z : List ℕ). a ++ z) (rewritten p Stands law c e (bytes_take w s b) t.0)
        (bytes_slots n (drop w s) k (bytes_drop w s b) t.1)
        ∙ sym (take-add w (n * w) s) ∙ ap (λ (x : ℕ). take x s) (sym m)

    -- from index at on they fill a store up to where the next begin
    pub part_bytes : (n at end : ℕ) (s : List ℕ) → at + n * slot_size p ≡ end → end ≤ length s → Bytes s → any_torn (slots p n (drop at s)) ≡ false
        → bytes p (entries (slots p n (drop at s))) ++ drop end s ≡ drop at s
    part_bytes n at end s e l b h =
        let w = n * slot_size p in
        let k : w ≤ length (drop at s) = rw (length-drop at s) (omega arith) in
        ap₂ (λ (x y : List ℕ). x ++ y) (bytes_slots n (drop at s) k (bytes_drop at s b) h) (sym (drop-drop w at s ∙ ap (λ (m : ℕ). drop m s) e))
        ∙ take-append-drop w (drop at s)

    -- and entries that stand are read again from their bytes
    read_slot : (o : Option A) → ((a : A) → o ≡ some a → Stands a)
        → (is_torn (slot_of p (slot_bytes p o)) ≡ false) × (entry_of (slot_of p (slot_bytes p o)) ≡ o)
    read_slot none h = let e = reread_none p Stands law in (ap is_torn e, ap entry_of e)
    read_slot (some a) h = let e = reread_some p Stands law a (h a refl) in (ap is_torn e, ap entry_of e)

    pub slots_bytes : (l : List (Option A)) (rest : List ℕ) → Each Stands l
        → (any_torn (slots p (length l) (bytes p l ++ rest)) ≡ false) × (entries (slots p (length l) (bytes p l ++ rest)) ≡ l)
    unfolding slots bytes any_torn
    slots_bytes [] rest h = (refl, refl)
    slots_bytes (o ∷ l) rest h =
        let w = slot_size p in
        let b = slot_bytes p o in
        let a : (b ++ bytes p l) ++ rest ≡ b ++ (bytes p l ++ rest) = append_assoc b (bytes p l) rest in
        let t : take w ((b ++ bytes p l) ++ rest) ≡ b = ap (take w) a ∙ take_at b (bytes p l ++ rest) w (length_slot p o) in
        let d : drop w ((b ++ bytes p l) ++ rest) ≡ bytes p l ++ rest = ap (drop w) a ∙ drop_at b (bytes p l ++ rest) w (length_slot p o) in
        let r = read_slot o (h 0) in
        let q = slots_bytes l rest (λ i. h (suc i)) in (
          ap₂ (λ (x y : List ℕ). is_torn (slot_of p x) || any_torn (slots p (length l) y)) t d
              ∙ ap₂ (λ (x y : Bool). x || y) r.0 q.0,
          ap₂ (λ (x y : List ℕ). entry_of (slot_of p x) ∷ entries (slots p (length l) y)) t d
              ∙ ap₂ (λ (x : Option A) (y : List (Option A)). x ∷ y) r.1 q.1,
        )

    pub part_read : (l : List (Option A)) (n : ℕ) (s rest : List ℕ) → Each Stands l → length l ≡ n → s ≡ bytes p l ++ rest
        → (any_torn (slots p n s) ≡ false) × (entries (slots p n s) ≡ l)
    part_read l n s rest h e d =
        let q = slots_bytes l rest h in
        let r : slots p n s ≡ slots p (length l) (bytes p l ++ rest) = ap₂ (slots p) (sym e) d in
        (ap any_torn r ∙ q.0, ap entries r ∙ q.1)

    pub entries_stand : (n : ℕ) (s : List ℕ) → any_torn (slots p n s) ≡ false → Each Stands (entries (slots p n s))
    unfolding slots any_torn slot_of
    entries_stand zero s h i a e = absurd (let y : ◌≡◌ {A = ℕ} 0 1 = cc in omega arith)
    entries_stand (suc n) s h zero a e =
        let c = take (slot_size p) s in
        entry_stands p Stands law (fields (party_layout p) c) a (either_false (is_torn (slot_of p c)) (any_torn (slots p n (drop (slot_size p) s))) h).0 e
    entries_stand (suc n) s h (suc i) a e =
        let c = take (slot_size p) s in
        entries_stand n (drop (slot_size p) s) (either_false (is_torn (slot_of p c)) (any_torn (slots p n (drop (slot_size p) s))) h).1 i a e

-- ---- a search for a torn slot: what it tells, whether it found one or looked at all of them

module _ {A : Type 0} (p : Party A) where
  none_torn : (n : ℕ) (s : List ℕ) → ((i : ℕ) → i < n → is_torn (slot_of p (slot_at p i s)) ≡ false) → any_torn (slots p n s) ≡ false
  unfolding slots any_torn
  none_torn zero s h = refl
  none_torn (suc n) s h =
      ap₂ (λ (a b : Bool). a || b) (ap (λ (t : List ℕ). is_torn (slot_of p t)) (front p s) ∙ h 0 (omega arith))
      (none_torn n (drop (slot_size p) s) (λ i l. ap (λ (t : List ℕ). is_torn (slot_of p t)) (behind p i s) ∙ h (suc i) (omega arith)))

  one_torn : (n i : ℕ) (s : List ℕ) → i < n → is_torn (slot_of p (slot_at p i s)) ≡ true → any_torn (slots p n s) ≡ true
  one_torn n i s l e = go (any_torn (slots p n s)) refl
    where
      go : (b : Bool) → any_torn (slots p n s) ≡ b → b ≡ true
      go true f = refl
      go false f = absurd (true≢false (sym e ∙ whole_at p n i s l f))

  pub torn_by : (n : ℕ) (s : List ℕ) (t : ℕ → List ℕ) → ((i : ℕ) → slot_at p i s ≡ t i) → (r : Bool)
      → MatchBool r ((k : ℕ) × (k < length (range_with_len 0 n)) × HoldsAt (λ (i : ℕ). is_torn (slot_of p (t i)) ≡ true) (range_with_len 0 n) k)
      (AllWithin (λ (i : ℕ). is_torn (slot_of p (t i)) ≡ false) (range_with_len 0 n) 0 (length (range_with_len 0 n))) → r ≡ any_torn (slots p n s)
  torn_by n s t e true h =
      let k = h.0 in
      let l : k < n = omega (arith, h.1, length-range_with_len 0 n) in
      let m : get_or (range_with_len 0 n) k 0 ≡ k = get_or-range_with_len 0 n k 0 l ∙ zero-add k in
      sym (one_torn n k s l (ap (λ (u : List ℕ). is_torn (slot_of p u)) (e k ∙ ap t (sym m)) ∙ h.2 0))
  torn_by n s t e false h =
      sym
      (none_torn n s
      (λ k l.
      let m : get_or (range_with_len 0 n) k 0 ≡ k = get_or-range_with_len 0 n k 0 l ∙ zero-add k in
      ap (λ (u : List ℕ). is_torn (slot_of p u)) (e k ∙ ap t (sym m)) ∙ h k 0 (omega arith) (omega (arith, l, length-range_with_len 0 n))))
