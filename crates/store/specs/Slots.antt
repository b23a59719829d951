-- Slots side by side in bytes, for any party that stands in them: how a slot is read and written, and what damage is.
use Rattle.std.specs.Prelude.{ℕ, zero, suc, ◌*◌, ◌≡◌, Bool, true, false, cond, ◌&&◌, ◌||◌, List, [], ◌∷◌, ◌++◌, map, get_or, take, drop, replicate, eqb, Some, None, Option as RustOption}
use Rattle.std.proofs.Math.Option.{Option, none, some}
use Rattle.layout.specs.Layout.{size, fields, packed}

-- what stands in slots: the widths in bits of its fields, which follow the use mark; how many slots there are; what the numbers of a slot,
-- the mark first, describe; its fields; and whether numbers are those of one that may be in the book
pub record Party (A : Type 0) : Type 0 where
  pub widths : List ℕ
  pub count : ℕ
  pub from : List ℕ → A
  pub to : A → List ℕ
  pub ok : List ℕ → Bool

-- a slot as it is found
pub data Slot (A : Type 0) : Type 0 where
  empty : Slot A
  used : A → Slot A
  torn : Slot A

-- whether all numbers are 0
abbrev pub all_zero : List ℕ → Bool
all_zero [] = true
all_zero (v ∷ vs) = eqb v 0 && all_zero vs

module _ {A : Type 0} where
  -- ---- one slot

  -- the mark has a byte
  abbrev pub party_layout : Party A → List ℕ
  party_layout p = 8 ∷ p.widths

  abbrev pub slot_size : Party A → ℕ
  slot_size p = size (party_layout p)

  -- all zero: not in use. Mark 1 and what may be in the book: in use. The rest is damage: a mark neither 0 nor 1; an unused slot not all
  -- zero; a used slot with what may not be in the book
  unfoldable pub slot_by : Party A → List ℕ → Slot A
  slot_by p vs = cond (all_zero vs) empty (cond (eqb (get_or vs 0 0) 1 && p.ok vs) (used (p.from vs)) torn)

  -- the slot that stands at the front of bytes
  unfoldable pub slot_of : Party A → List ℕ → Slot A
  slot_of p s = slot_by p (fields (party_layout p) s)

  -- the bytes of a slot
  unfoldable pub slot_bytes : Party A → Option A → List ℕ
  slot_bytes p none = replicate (slot_size p) 0
  slot_bytes p (some a) = packed (party_layout p) (1 ∷ p.to a)

  abbrev pub is_torn : Slot A → Bool
  is_torn empty = false
  is_torn (used a) = false
  is_torn torn = true

  -- who is in a slot; nobody in one that is damaged
  abbrev pub entry_of : Slot A → Option A
  entry_of empty = none
  entry_of (used a) = some a
  entry_of torn = none

  -- who is in a slot as its mark says, with its fields as they stand: the option of the code
  abbrev pub read_by : Party A → List ℕ → RustOption A
  read_by p vs = cond (eqb (get_or vs 0 0) 1) (Some (p.from vs)) None

  -- and the book's option of the same
  abbrev pub entry : RustOption A → Option A
  entry None = none
  entry (Some a) = some a

  -- ---- slots side by side

  -- the bytes of slot i
  abbrev pub slot_at : Party A → ℕ → List ℕ → List ℕ
  slot_at p i s = take (slot_size p) (drop (i * slot_size p) s)

  -- the first n slots of s
  unfoldable pub slots : Party A → ℕ → List ℕ → List (Slot A)
  slots p zero s = []
  slots p (suc n) s = slot_of p (take (slot_size p) s) ∷ slots p n (drop (slot_size p) s)

  -- all the slots of a party
  abbrev pub found : Party A → List ℕ → List (Slot A)
  found p s = slots p p.count s

  abbrev pub entries : List (Slot A) → List (Option A)
  entries l = map entry_of l

  unfoldable pub any_torn : List (Slot A) → Bool
  any_torn [] = false
  any_torn (t ∷ ts) = is_torn t || any_torn ts

  -- and their bytes
  unfoldable pub bytes : Party A → List (Option A) → List ℕ
  bytes p [] = []
  bytes p (o ∷ os) = slot_bytes p o ++ bytes p os

  -- each one in use has P
  abbrev pub Each : (A → Type 0) → List (Option A) → Type 0
  Each P l = (i : ℕ) (a : A) → get_or l i none ≡ some a → P a
