-- A record depends on its own bytes alone: more bytes behind it change neither what is read nor how far the next record is.
-- Assumes nothing.
use Prim.Native.Nat.{ℕ, ◌≤◌, ◌<◌}
use mathlib.Core.Path.{◌≡◌, sym, ap, ap₂, ◌∙◌}
use mathlib.Core.Bool.{Bool, false, cond, ◌||◌}
use mathlib.Core.List.{List, ◌++◌}
use native.Mathlib.Omega.{arith}
use borrow.Author.Tests.{le-ltb, ne_eqb}
use lib.Dec.{ltb, eqb}
use lib.ListN.{length, length-append}
use Rattle.layout.specs.Layout.{Bytes, size, fields}
use Rattle.layout.proofs.Laws.{fields_append}
use Rattle.layout.proofs.Own.{bits_own}
use Rattle.answer.specs.declared.Refusal.TheVariants.{CutShort, UnknownKind, Leftover}
use Rattle.request.specs.declared.Reading.{Reading}
use Rattle.request.specs.Kinds.{kind_bits, layout_of, leftover_of}
use Rattle.request.specs.Record.{kind_of, length_of, values_of, cut_short, refused, heard, read_of, extent_of}
use Rattle.request.proofs.Laws.{extent_whole}

-- a record that is there is not cut short
whole : (s : List ℕ) → 0 < length s → length_of s ≤ length s → cut_short s ≡ false
whole s h l = ap₂ ◌||◌ (ne_eqb (length s) 0 (λ e. omega arith)) (le-ltb (length s) (length_of s) l)

-- refusals 3 and 4, and then the fields
abbrev told : ℕ → List ℕ → Reading
told k v = cond (eqb (size (layout_of k)) 0) (refused UnknownKind) (cond (ltb 0 (leftover_of k v)) (refused Leftover) (heard k v))

module _ (s t : List ℕ) (b : Bytes t) (h : 0 < length s) (l : length_of s ≤ length s) where
  kind_own : kind_of (s ++ t) ≡ kind_of s
  kind_own = bits_own s t 0 kind_bits b (omega arith)

  length_own : length_of (s ++ t) ≡ length_of s
  length_own = ap (λ (k : ℕ). size (layout_of k)) kind_own

  values_own : values_of (s ++ t) ≡ values_of s
  values_own = ap (λ (k : ℕ). fields (layout_of k) (s ++ t)) kind_own ∙ fields_append (layout_of (kind_of s)) s t l

  longer : length_of (s ++ t) ≤ length (s ++ t)
  longer = omega (arith, length_own, length-append s t)

  pub extent_own : extent_of (s ++ t) ≡ extent_of s
  extent_own = sym (extent_whole (s ++ t) longer) ∙ length_own ∙ extent_whole s l

  pub read_own : read_of (s ++ t) ≡ read_of s
  unfolding read_of
  read_own =
      ap (λ (c : Bool). cond c (refused CutShort) (told (kind_of (s ++ t)) (values_of (s ++ t))))
      (whole (s ++ t) (omega (arith, length-append s t)) longer ∙ sym (whole s h l))
      ∙ ap₂ (λ (k : ℕ) (v : List ℕ). cond (cut_short s) (refused CutShort) (told k v)) kind_own values_own
