-- What the place of a party's slots tells of the code's numbers: b where slots begin, w the bytes of one, ws the widths of its numbers.
-- Assumes nothing.
use Rattle.std.specs.Prelude.{Some, None, Option as RustOption}
use Prim.Native.Nat.{ℕ, suc, ◌+◌, ◌*◌, ◌%◌, ◌^◌, ◌≤◌, ◌<◌}
use mathlib.Core.Path.{◌≡◌, refl, sym, ap, ◌∙◌, subst}
use mathlib.Core.Bool.{Bool, true, false, ◌&&◌}
use mathlib.Core.List.{List, [], ◌∷◌}
use native.Mathlib.Nat.{suc-mul, mul-le-mul_right}
use native.Mathlib.Omega.{arith}
use prog.Memory.{up}
use borrow.Author.Tests.{leb-true}
use lib.Dec.{leb, eqb}
use lib.ListN.{length, get_or, take, drop}
use Rattle.layout.specs.Layout.{Within, Bytes, sum, narrow, size, fields, packed}
use Rattle.layout.specs.Over.{over}
use Rattle.layout.proofs.Bounds.{both}
use Rattle.layout.proofs.Laws.{sized_narrow, sized_whole, sized_few}
use Rattle.store.specs.Slots.{Party, party_layout, slot_size, slot_at, read_by}
use Rattle.store.specs.Store.{store_length}
use Rattle.store.specs.Placed.{Placed}
use Rattle.store.proofs.Slots.{place as found_at, unmarked_slot, marked_slot}

-- each width is a bit or more
width_each : (r : ℕ) (ws : List ℕ) → narrow r ws ≡ true → length ws ≤ sum ws
width_each r [] h = omega arith
width_each r (w ∷ ws) h =
    let p = both (leb 1 w) (leb (r + w) 64 && narrow ((r + w) % 8) ws) h in
    let q = both (leb (r + w) 64) (narrow ((r + w) % 8) ws) p.1 in
    omega (arith, leb-true 1 w p.0, width_each ((r + w) % 8) ws q.1)

module _ {A : Type 0} {p : Party A} {n count begin : ℕ} {place : ℕ → ℕ} {slot : ℕ → List ℕ → List ℕ} {reading : List ℕ → RustOption A} (law : Placed p n count begin place slot reading) where
  -- so there are few numbers, and one at least
  numbers_few : n ≤ 8000
  numbers_few =
      omega (arith, law.numbers, width_each 0 (party_layout p) (sized_narrow (party_layout p) law.handled), sized_few (party_layout p) law.handled)

  pub numbers_room : n * 8 < 2 ^ 63
  numbers_room = omega (arith, numbers_few)

  pub slots_room : up 8 (24 + n * 1) < 2 ^ 63
  slots_room = omega (arith, numbers_few)

  pub mark_first : 0 < n
  mark_first = omega (arith, law.numbers)

  -- where the code finds slot i
  slot_begin : (i b w : ℕ) → b ≡ begin → w ≡ slot_size p → b + i * w ≡ place i
  slot_begin i b w e f = (λ j. e j + i * f j) ∙ sym (law.places i)

  -- it ends before the store does, and has a byte at least, that of its mark
  pub slot_there : (i b w l : ℕ) → b ≡ begin → w ≡ slot_size p → i < count → l ≡ store_length → (b + i * w + w ≤ l) × (1 ≤ w)
  slot_there i b w l e f h k =
      let m : suc i * slot_size p ≤ count * slot_size p = mul-le-mul_right (slot_size p) h in
      let z : 1 ≤ slot_size p = omega (arith, sized_whole (party_layout p) law.handled) in
      (omega (arith, suc-mul i (slot_size p), m, law.inside, slot_begin i b w e f, law.places i), omega (arith, z))

  -- slot i of those that stand from the first on
  pub slot_found : (i : ℕ) (s : List ℕ) → slot_at p i (drop begin s) ≡ slot i s
  slot_found i s = found_at p begin i s ∙ ap (λ (at : ℕ). take (slot_size p) (drop at s)) (sym (law.places i)) ∙ sym (law.slots i s)

  -- what is read there, and written
  pub read_there : (i b w : ℕ) (ws s : List ℕ) → b ≡ begin → w ≡ slot_size p → ws ≡ party_layout p
      → fields ws (take (size ws) (drop (b + i * w) s)) ≡ fields (party_layout p) (slot i s)
  read_there i b w ws s e f g =
      let h = slot_begin i b w e f in
      (λ j. fields (g j) (take (size (g j)) (drop (h j) s))) ∙ ap (fields (party_layout p)) (sym (law.slots i s))

  pub written_there : (i b w : ℕ) (ws v s : List ℕ) → b ≡ begin → w ≡ slot_size p → ws ≡ party_layout p
      → over (b + i * w) (packed ws v) s ≡ over (place i) (packed (party_layout p) v) s
  written_there i b w ws v s e f g = let h = slot_begin i b w e f in λ j. over (h j) (packed (g j) v) s

  -- who is in slot i, as its mark says
  module _ (i b w : ℕ) (s : List ℕ) (e : b ≡ begin) (f : w ≡ slot_size p) (h : i < count) (k : length s ≡ store_length) (y : Bytes s) where
    fits : place i + slot_size p ≤ length s
    fits = omega (arith, (slot_there i begin (slot_size p) (length s) refl refl h k).0, law.places i)

    shown : (t : Bool) → eqb (get_or s (b + i * w) 0) 1 ≡ t → eqb (get_or s (place i) 0) 1 ≡ t
    shown t m = ap (λ (at : ℕ). eqb (get_or s at 0) 1) (sym (slot_begin i b w e f)) ∙ m

    is_read : read_by p (fields (party_layout p) (take (slot_size p) (drop (place i) s))) ≡ reading (slot i s)
    is_read = ap (λ (t : List ℕ). read_by p (fields (party_layout p) t)) (sym (law.slots i s)) ∙ sym (law.reads (slot i s))

    pub none_there : eqb (get_or s (b + i * w) 0) 1 ≡ false → None ≡ reading (slot i s)
    none_there m = unmarked_slot p s (place i) law.handled y fits (shown false m) ∙ is_read

    pub one_there : (a : A) → eqb (get_or s (b + i * w) 0) 1 ≡ true → a ≡ p.from (fields (party_layout p) (slot i s)) → Some a ≡ reading (slot i s)
    one_there a m z =
        marked_slot p s (place i) a law.handled y fits (shown true m) (z ∙ ap (λ (t : List ℕ). p.from (fields (party_layout p) t)) (law.slots i s)) ∙ is_read

-- numbers that are those of one that fits fit
pub numbers_fit : {A : Type 0} (p : Party A) (v : List ℕ) (a : A) → v ≡ 1 ∷ p.to a → Within (party_layout p) (1 ∷ p.to a)
    → (v ≡ 1 ∷ p.to a) × Within (party_layout p) v
numbers_fit p v a e f = (e, subst (Within (party_layout p)) (sym e) f)
