-- What the reader and the writer come to, case by case, over plain values; and the laws of fields with zeros after them.
-- Assumes nothing.
use Rattle.std.specs.Prelude.{Ok, Err}
use Prim.Native.Nat.{ℕ, zero, suc, ◌+◌, ◌≤◌, ◌<◌}
use mathlib.Core.Path.{◌≡◌, refl, sym, ap, ap₂, ◌∙◌, subst, subst⁻¹}
use mathlib.Core.Bool.{Bool, true, false, cond, ◌||◌}
use mathlib.Core.List.{List, [], ◌∷◌, ◌++◌, append_assoc}
use native.Mathlib.Nat.{lt_of_lt_of_le, add-zero}
use native.Mathlib.Omega.{arith}
use borrow.Author.Tests.{le-leb, lt-leb, leb-true, ltb-false, lt-ltb, le-ltb}
use lib.Dec.{leb, ltb, eqb}
use lib.ListN.{length, take, drop, replicate, length-append, length-map}
use lib.Seq.{take_at, drop-drop, drop-append-add, take_all}
use lib.Pow.{pow_mono}
use Rattle.layout.specs.Layout.{size, Within}
use Rattle.layout.specs.Over.{over}
use Rattle.layout.proofs.Packing.{within_length, within_at, within_front}
use Rattle.layout.proofs.Laws.{length_packed}
use Rattle.answer.specs.declared.Refusal.{Refusal}
use Rattle.answer.specs.declared.Refusal.TheVariants.{CutShort, UnknownKind, Leftover}
use Rattle.road.specs.declared.Source.{Source}
use Rattle.road.specs.Results.{Verdict}
use Rattle.road.specs.Fields.{Row, bits_by, slot_bits_by, Fit}
use Rattle.road.proofs.Rows.{roomy, fit_wider, record_fit}
use Rattle.request.specs.declared.Request.{Request}
use Rattle.request.specs.declared.Request.TheVariants.{Ask}
use Rattle.request.specs.Record.{Written}
use Rattle.request.specs.Kinds.{at, blank, kind_at, layout_of, call_in, source_in, verdict_of, kind_number, fields_of}
use Rattle.request.specs.Record.{kind_of, length_of, values_of, cut_short, unknown_kind, leftover_set, reading, refused, judged, heard_by, heard, read_of, extent_of, record_of, written_by, write_of}
use Rattle.request.specs.Inner.{filled, first_of}
use Rattle.request.proofs.Rows.{row_begun}

-- ---- fields with zeros after them

pub first_filled : (k : ℕ) (v : List ℕ) → length v ≡ length (layout_of k) → first_of k (filled v) ≡ v
unfolding filled
first_filled k v e = take_at v (drop (length v) (replicate 25 0)) (length (layout_of k)) e

-- values laid behind fields
pub filled_more : (w t : List ℕ) → over (length w) t (filled w) ≡ filled (w ++ t)
unfolding filled over
filled_more w t =
    let z : List ℕ = replicate 25 0 in
    let n = length w in
    let e : drop (n + length t) (w ++ drop n z) ≡ drop (length (w ++ t)) z =
    drop-append-add w (drop n z) (length t) ∙ drop-drop (length t) n z ∙ ap (λ (k : ℕ). drop k z) (sym (length-append w t)) in
    ap₂ (λ (x y : List ℕ). x ++ (t ++ y)) (take_at w (drop n z) n refl) e ∙ sym (append_assoc w t (drop (length (w ++ t)) z))

-- ---- fields within their widths

-- the slot is there, and fits sixteen bits
module _ (k : ℕ) (v : List ℕ) (h : 0 < size (layout_of k)) (w : Within (layout_of k) v) where
  pub slot_there : 1 < length v
  slot_there = omega (arith, (row_begun k h).two, within_length (layout_of k) v w)

  pub slot_fits : at v 1 < 65536
  slot_fits =
      let b = row_begun k h in
      lt_of_lt_of_le (within_at (layout_of k) v 1 w b.two) (pow_mono {i = at (layout_of k) 1} {j = 16} b.slot)

-- the fields that follow others are there, and fit
pub part_within : (us ws v : List ℕ) → Within (us ++ ws) v → Within ws (drop (length us) v)
part_within [] ws v w = w
part_within (u ∷ us) ws [] w = absurd w
part_within (u ∷ us) ws (x ∷ v) w = part_within us ws v w.1

module _ (us ws left : List ℕ) where
  pub part_there : (v : List ℕ) → Within (us ++ (ws ++ left)) v → length us + length ws ≤ length v
  part_there v w = omega (arith, within_length (us ++ (ws ++ left)) v w, length-append us (ws ++ left), length-append ws left)

  pub part_fits : (v : List ℕ) → Within (us ++ (ws ++ left)) v → Within ws (take (length ws) (drop (length us) v))
  part_fits v w = within_front ws left (drop (length us) v) (part_within us (ws ++ left) v w)

fit_behind : (us ws : List ℕ) (k : ℕ) (v : List ℕ) → Fit (us ++ ws) k v → Fit ws (k + length us) v
fit_behind [] ws k v f = rw (add-zero k) f
fit_behind (u ∷ us) ws k v f = let e : suc k + length us ≡ k + suc (length us) = omega arith in subst (λ (n : ℕ). Fit ws n v) e (fit_behind us ws (suc k) v f.1)

-- the fields of a table that follow others are there, and fit what the code makes of them
pub table_fits : {A : Type 0} (t : List (Row A)) (us left v : List ℕ) → roomy t ≡ true → Within (us ++ (bits_by t ++ left)) v
    → (length us + length t ≤ length v) × Fit (slot_bits_by t) (length us) v
table_fits {A} t us left v h w =
    let ws = us ++ (bits_by t ++ left) in
    let n = within_length ws v w in
    let f = record_fit ws v (subst⁻¹ (Within ws) (take_all (length ws) v (omega arith)) w) in
    let z : 0 + length us ≡ length us = omega arith in (
      omega (arith, length-append us (bits_by t ++ left), length-append (bits_by t) left, length-map t (λ (r : Row A). r.bits)),
      fit_wider t left (length us) v h (subst (λ (k : ℕ). Fit (bits_by t ++ left) k v) z (fit_behind us (bits_by t ++ left) 0 v f)),
    )

-- ---- the extent

pub extent_whole : (s : List ℕ) → length_of s ≤ length s → length_of s ≡ extent_of s
unfolding extent_of
extent_whole s h = rw (le-leb (length_of s) (length s) h) refl

pub extent_none : (s : List ℕ) → length s < length_of s → 0 ≡ extent_of s
unfolding extent_of
extent_none s h = rw (lt-leb (length_of s) (length s) h) refl

pub extent_le : (s : List ℕ) → extent_of s ≤ length s
unfolding extent_of
extent_le s = go (leb (length_of s) (length s)) refl
  where
    go : (b : Bool) → leb (length_of s) (length s) ≡ b → cond b (length_of s) 0 ≤ length s
    go true e = leb-true (length_of s) (length s) e
    go false e = omega arith

-- ---- what fields tell

module _ (k : ℕ) (v : List ℕ) (call : Request) (source : Source) (e : call ≡ call_in k v) (f : source ≡ source_in k v) where
  heard_by_lem : heard_by call source ≡ heard k v
  heard_by_lem = λ i. heard_by (e i) (f i)

  pub heard_refused : (why : Refusal) → verdict_of call source ≡ Err why → refused why ≡ heard k v
  heard_refused why h = sym (ap (λ (x : Verdict). judged x call source) h) ∙ heard_by_lem

  pub heard_allowed : verdict_of call source ≡ Ok tt → reading (Ok call) source ≡ heard k v
  heard_allowed h = sym (ap (λ (x : Verdict). judged x call source) h) ∙ heard_by_lem

-- ---- reading

-- a record that is not cut short has its bytes
pub uncut : (s : List ℕ) → cut_short s ≡ false → length_of s ≤ length s
uncut s h = ltb-false (length s) (length_of s) (second (eqb (length s) 0) (ltb (length s) (length_of s)) h)
  where
    second : (a b : Bool) → a || b ≡ false → b ≡ false
    second true b e = let z : ◌≡◌ {A = ℕ} 0 1 = cc in absurd (omega arith)
    second false b e = e

module _ (s : List ℕ) where
  pub read_cut : cut_short s ≡ true → refused CutShort ≡ read_of s
  unfolding read_of
  read_cut a = rw a refl

  module _ (a : cut_short s ≡ false) where
    pub read_unknown : unknown_kind s ≡ true → refused UnknownKind ≡ read_of s
    unfolding read_of
    read_unknown b = rw (a, b) refl

    module _ (b : unknown_kind s ≡ false) where
      pub read_leftover : leftover_set s ≡ true → refused Leftover ≡ read_of s
      unfolding read_of
      read_leftover d = rw (a, b, d) refl

      pub read_heard : leftover_set s ≡ false → heard (kind_of s) (values_of s) ≡ read_of s
      unfolding read_of
      read_heard d = rw (a, b, d) refl

-- ---- writing

module _ (call : Request) (source : Source) (out : List ℕ) where
  pub write_refused : (why : Refusal) → verdict_of call source ≡ Err why
      → ◌≡◌ {A = Written × List ℕ} (Err why, out) (write_of call source out)
  unfolding write_of
  write_refused why h = sym (ap (λ (v : Verdict). written_by v (record_of call source) out) h)

  record_length : length (record_of call source) ≡ size (layout_of (kind_number call source))
  unfolding record_of
  record_length = length_packed (layout_of (kind_number call source)) (fields_of call source)

  module _ (h : verdict_of call source ≡ Ok tt) where
    pub write_short : length out < size (layout_of (kind_number call source))
        → ◌≡◌ {A = Written × List ℕ} (Err CutShort, out) (write_of call source out)
    unfolding write_of
    write_short l =
        let t : length out < length (record_of call source) = omega (arith, record_length) in
        let e : ltb (length out) (length (record_of call source)) ≡ true = lt-ltb (length out) (length (record_of call source)) t in
        sym (ap (λ (v : Verdict). written_by v (record_of call source) out) h ∙ rw e refl)

    pub write_done : size (layout_of (kind_number call source)) ≤ length out
        → ◌≡◌ {A = Written × List ℕ} (Ok tt, record_of call source ++ drop (size (layout_of (kind_number call source))) out) (write_of call source out)
    unfolding write_of
    write_done l =
        let t : length (record_of call source) ≤ length out = omega (arith, record_length) in
        let e : ltb (length out) (length (record_of call source)) ≡ false = le-ltb (length out) (length (record_of call source)) t in
        ap (λ (n : ℕ). (Ok tt, record_of call source ++ drop n out)) (sym record_length)
        ∙ sym (ap (λ (v : Verdict). written_by v (record_of call source) out) h ∙ rw e refl)

-- ---- what any other number asks for, and the source beside it: nothing cites these since the code has a case for each kind

pub ask_else : (k slot : ℕ) (v : List ℕ) → (k ≡ 1 → ⊥) → (k ≡ 2 → ⊥) → (k ≡ 3 → ⊥) → (k ≡ 4 → ⊥) → (k ≡ 6 → ⊥) → (k ≡ 7 → ⊥) → (k ≡ 8 → ⊥) → (k ≡ 9 → ⊥)
    → (kind_at k).call slot v ≡ Ask slot
unfolding kind_at
ask_else zero slot v a b c d e f g h = refl
ask_else (suc zero) slot v a b c d e f g h = absurd (a refl)
ask_else (suc (suc zero)) slot v a b c d e f g h = absurd (b refl)
ask_else (suc (suc (suc zero))) slot v a b c d e f g h = absurd (c refl)
ask_else (suc (suc (suc (suc zero)))) slot v a b c d e f g h = absurd (d refl)
ask_else (suc (suc (suc (suc (suc zero))))) slot v a b c d e f g h = refl
ask_else (suc (suc (suc (suc (suc (suc zero)))))) slot v a b c d e f g h = absurd (e refl)
ask_else (suc (suc (suc (suc (suc (suc (suc zero))))))) slot v a b c d e f g h = absurd (f refl)
ask_else (suc (suc (suc (suc (suc (suc (suc (suc zero)))))))) slot v a b c d e f g h = absurd (g refl)
ask_else (suc (suc (suc (suc (suc (suc (suc (suc (suc zero))))))))) slot v a b c d e f g h = absurd (h refl)
ask_else (suc (suc (suc (suc (suc (suc (suc (suc (suc (suc k)))))))))) slot v a b c d e f g h = refl

pub blank_else : (k : ℕ) (v : List ℕ) → (k ≡ 3 → ⊥) → (k ≡ 6 → ⊥) → (k ≡ 7 → ⊥) → (kind_at k).source v ≡ blank
unfolding kind_at
blank_else zero v a b c = refl
blank_else (suc zero) v a b c = refl
blank_else (suc (suc zero)) v a b c = refl
blank_else (suc (suc (suc zero))) v a b c = absurd (a refl)
blank_else (suc (suc (suc (suc zero)))) v a b c = refl
blank_else (suc (suc (suc (suc (suc zero))))) v a b c = refl
blank_else (suc (suc (suc (suc (suc (suc zero)))))) v a b c = absurd (b refl)
blank_else (suc (suc (suc (suc (suc (suc (suc zero))))))) v a b c = absurd (c refl)
blank_else (suc (suc (suc (suc (suc (suc (suc (suc zero)))))))) v a b c = refl
blank_else (suc (suc (suc (suc (suc (suc (suc (suc (suc zero))))))))) v a b c = refl
blank_else (suc (suc (suc (suc (suc (suc (suc (suc (suc (suc k)))))))))) v a b c = refl
