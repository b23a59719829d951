-- What holds of every row of the table of kinds, by one computed test.
-- Assumes nothing.
use Prim.Native.Nat.{ℕ, zero, suc, ◌≤◌, ◌<◌}
use mathlib.Core.Path.{◌≡◌, refl}
use mathlib.Core.Bool.{Bool, true, false, ◌&&◌, ◌||◌}
use mathlib.Core.List.{List, [], ◌∷◌}
use native.Mathlib.Omega.{arith}
use borrow.Author.Tests.{leb-true, eqb-true, ne_eqb}
use lib.Dec.{leb, eqb}
use lib.ListN.{length, get_or}
use Rattle.layout.specs.Layout.{size, sized}
use Rattle.layout.proofs.Bounds.{both}
use Rattle.request.specs.Kinds.{kind_bits, at, Kind, unlisted, kinds, longest_record, kind_at, layout_of}

abbrev every : (Kind → Bool) → List Kind → Bool
every t [] = true
every t (k ∷ ks) = t k && every t ks

at_row : (t : Kind → Bool) (ks : List Kind) (i : ℕ) → every t ks ≡ true → t unlisted ≡ true → t (get_or ks i unlisted) ≡ true
at_row t [] i h u = u
at_row t (k ∷ ks) zero h u = (both (t k) (every t ks) h).0
at_row t (k ∷ ks) (suc i) h u = at_row t ks i (both (t k) (every t ks) h).1 u

-- a listed kind begins with the bits for itself and at most sixteen for the slot
abbrev begun : List ℕ → Bool
begun ws = eqb (size ws) 0 || (eqb (at ws 0) kind_bits && (leb 2 (length ws) && leb (at ws 1) 16))

-- the layout is one that the code can handle, in arrays of 24 widths and 25 values
abbrev fit : Kind → Bool
fit k = sized k.widths && (leb (length k.widths) 24 && (leb k.fields 23 && begun k.widths))

pub record Begun (ws : List ℕ) : Type 0 where
  pub kind : at ws 0 ≡ kind_bits
  pub two : 2 ≤ length ws
  pub slot : at ws 1 ≤ 16

opened : (b c : Bool) → b || c ≡ true → b ≡ false → c ≡ true
opened b c h e = rw e at h

module _ (k : ℕ) where
  row_fit : fit (kind_at k) ≡ true
  unfolding kind_at
  row_fit = at_row fit kinds k refl refl

  rest : leb (length (layout_of k)) 24 && (leb (kind_at k).fields 23 && begun (layout_of k)) ≡ true
  rest = (both (sized (layout_of k)) (leb (length (layout_of k)) 24 && (leb (kind_at k).fields 23 && begun (layout_of k))) row_fit).1

  last : leb (kind_at k).fields 23 && begun (layout_of k) ≡ true
  last = (both (leb (length (layout_of k)) 24) (leb (kind_at k).fields 23 && begun (layout_of k)) rest).1

  pub row_sized : sized (layout_of k) ≡ true
  row_sized = (both (sized (layout_of k)) (leb (length (layout_of k)) 24 && (leb (kind_at k).fields 23 && begun (layout_of k))) row_fit).0

  pub row_count : length (layout_of k) ≤ 24
  row_count = leb-true (length (layout_of k)) 24 (both (leb (length (layout_of k)) 24) (leb (kind_at k).fields 23 && begun (layout_of k)) rest).0

  pub row_fields : (kind_at k).fields ≤ 23
  row_fields = leb-true (kind_at k).fields 23 (both (leb (kind_at k).fields 23) (begun (layout_of k)) last).0

  pub row_begun : 0 < size (layout_of k) → Begun (layout_of k)
  row_begun h =
      let ws = layout_of k in
      let n : size ws ≡ 0 → ⊥ = λ e. omega arith in
      let t = opened (eqb (size ws) 0) (eqb (at ws 0) kind_bits && (leb 2 (length ws) && leb (at ws 1) 16))
      (both (leb (kind_at k).fields 23) (begun ws) last).1 (ne_eqb (size ws) 0 n) in
      let a = both (eqb (at ws 0) kind_bits) (leb 2 (length ws) && leb (at ws 1) 16) t in
      let b = both (leb 2 (length ws)) (leb (at ws 1) 16) a.1 in
      record {
        kind = eqb-true (at ws 0) kind_bits a.0;
        two = leb-true 2 (length ws) b.0;
        slot = leb-true (at ws 1) 16 b.1;
      }

-- no row is longer than the longest record
pub row_longest : (k : ℕ) → size (layout_of k) ≤ longest_record
unfolding kind_at
row_longest k = leb-true (size (layout_of k)) longest_record (at_row (λ (x : Kind). leb (size x.widths) longest_record) kinds k refl refl)
