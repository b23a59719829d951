-- The record at the front of a job: what its kind is, case by case, and what a reading is then.
-- Assumes nothing.
use Rattle.std.specs.Prelude.{ℕ, suc, ◌+◌, ◌≡◌, ◌≤◌, ◌<◌, refl, Bool, true, false, cond, eqb, ltb, ◌||◌, List, length, get_or, Some, None, Option, Ok, Err, Result, ok_or}
use mathlib.Core.Path.{sym, ap, ◌∙◌}
use native.Mathlib.Numerals.{add-one}
use native.Mathlib.Omega.{arith}
use borrow.Author.Tests.{lt-ltb, le-ltb, ltb-true, eqb-true, ne_eqb}
use Rattle.layout.specs.Layout.{size, fields}
use Rattle.answer.specs.declared.Refusal.{Refusal}
use Rattle.answer.specs.declared.Refusal.TheVariants.{CutShort, UnknownKind, Leftover}
use Rattle.request.specs.Kinds.{Kind as Row, at, kind_at, layout_of, leftover_of}
use Rattle.request.specs.Record.{kind_of, length_of, values_of, cut_short, unknown_kind, refused, heard, read_of, extent_of}
use Rattle.request.proofs.Laws.{uncut, read_cut, read_unknown, read_leftover, read_heard, extent_whole, extent_none, extent_le}
use Rattle.kinds.specs.declared.Kind.{Kind}
use Rattle.kinds.specs.Kind.{number_of, kind_named, kind_read, front_of}
use Rattle.kinds.proofs.Laws.{named_number, kind_listed, unnamed_unlisted}

-- what cannot be, by values that differ
never : {P : Type 0} → ◌≡◌ {A = ℕ} 0 1 → P
never e = absurd (omega arith)

-- a kind that is there is the one named, and its number the first bits
record Named (s : List ℕ) (k : Kind) : Type 0 where
  byte : eqb (length s) 0 ≡ false
  name : kind_named (kind_of s) ≡ Some k

module _ (s : List ℕ) where
  -- without a kind there are no bytes
  unlisted_short : kind_named (kind_of s) ≡ None → length_of s ≡ 0
  unlisted_short n = ap (λ (r : Row). size r.widths) (unnamed_unlisted (kind_of s) n)

  sized : (k : Kind) → kind_named (kind_of s) ≡ Some k → size (layout_of (number_of k)) ≡ length_of s
  sized k n = ap (λ (j : ℕ). size (layout_of j)) (named_number (kind_of s) k n)

  named : (k : Kind) → kind_read s ≡ Ok k → Named s k
  named k e = go (eqb (length s) 0) refl (kind_named (kind_of s)) refl e
    where
      go : (b : Bool) → eqb (length s) 0 ≡ b → (o : Option Kind) → kind_named (kind_of s) ≡ o
          → ◌≡◌ {A = Result Kind Refusal} (cond b (Err CutShort) (ok_or o UnknownKind)) (Ok k) → Named s k
      go true a o n e = never cc
      go false a None n e = never cc
      go false a (Some x) n e = let q : x ≡ k = cc in record { byte = a; name = n ∙ ap Some q }

  -- ---- `front`, by the kind that is read

  pub front_unread : (why : Refusal) → kind_read s ≡ Err why → Err why ≡ front_of s
  front_unread why e = go (eqb (length s) 0) refl (kind_named (kind_of s)) refl e
    where
      go : (b : Bool) → eqb (length s) 0 ≡ b → (o : Option Kind) → kind_named (kind_of s) ≡ o
          → ◌≡◌ {A = Result Kind Refusal} (cond b (Err CutShort) (ok_or o UnknownKind)) (Err why) → Err why ≡ front_of s
      go true a o n e = rw a (sym e)
      go false a None n e = rw (a, n, le-ltb (length s) (length_of s) (omega (arith, unlisted_short n))) (sym e)
      go false a (Some x) n e = never cc

  module _ (k : Kind) (e : kind_read s ≡ Ok k) where
    pub front_cut : length s < size (layout_of (number_of k)) → Err CutShort ≡ front_of s
    front_cut h =
        let f = named k e in
        rw (f.byte, lt-ltb (length s) (length_of s) (omega (arith, sized k f.name))) refl

    pub front_there : size (layout_of (number_of k)) ≤ length s → Ok k ≡ front_of s
    front_there h =
        let f = named k e in
        rw (f.byte, le-ltb (length s) (length_of s) (omega (arith, sized k f.name)), f.name) refl

  -- ---- what a reading is, by `front`

  pub record Front (k : Kind) : Type 0 where
    pub kind : number_of k ≡ kind_of s
    pub whole : cut_short s ≡ false
    pub known : unknown_kind s ≡ false
    pub room : size (layout_of (number_of k)) ≤ length s

  pub front_is : (k : Kind) → front_of s ≡ Ok k → Front k
  front_is k e = go (cut_short s) refl (kind_named (kind_of s)) refl e
    where
      go : (b : Bool) → cut_short s ≡ b → (o : Option Kind) → kind_named (kind_of s) ≡ o
          → ◌≡◌ {A = Result Kind Refusal} (cond b (Err CutShort) (ok_or o UnknownKind)) (Ok k) → Front k
      go true a o n e = never cc
      go false a None n e = never cc
      go false a (Some x) n e =
          let q : x ≡ k = cc in
          let m = n ∙ ap Some q in
          record {
            kind = named_number (kind_of s) k m;
            whole = a;
            known = ne_eqb (length_of s) 0 (λ z. omega (arith, sized k m, kind_listed k));
            room = omega (arith, uncut s a, sized k m);
          }

  pub front_refused : (why : Refusal) → front_of s ≡ Err why → refused why ≡ read_of s
  front_refused why e = go (cut_short s) refl (kind_named (kind_of s)) refl e
    where
      go : (b : Bool) → cut_short s ≡ b → (o : Option Kind) → kind_named (kind_of s) ≡ o
          → ◌≡◌ {A = Result Kind Refusal} (cond b (Err CutShort) (ok_or o UnknownKind)) (Err why) → refused why ≡ read_of s
      go true a o n e = let q : why ≡ CutShort = cc in ap refused q ∙ read_cut s a
      go false a None n e = let q : why ≡ UnknownKind = cc in ap refused q ∙ read_unknown s a (ap (λ (m : ℕ). eqb m 0) (unlisted_short n))
      go false a (Some x) n e = never cc

  pub front_extent : (k : Kind) → front_of s ≡ Ok k → size (layout_of (number_of k)) ≡ extent_of s
  front_extent k e =
      let f = front_is k e in
      let n : size (layout_of (number_of k)) ≡ length_of s = ap (λ (j : ℕ). size (layout_of j)) f.kind in
      n ∙ extent_whole s (uncut s f.whole)

  cut_extent : cut_short s ≡ true → 0 ≡ extent_of s
  cut_extent a = go (eqb (length s) 0) refl (ltb (length s) (length_of s)) refl a
    where
      go : (b : Bool) → eqb (length s) 0 ≡ b → (d : Bool) → ltb (length s) (length_of s) ≡ d → b || d ≡ true → 0 ≡ extent_of s
      go true b d c e = omega (arith, extent_le s, eqb-true (length s) 0 b)
      go false b true c e = extent_none s (ltb-true (length s) (length_of s) c)
      go false b false c e = never cc

  pub refused_extent : (why : Refusal) → front_of s ≡ Err why → 0 ≡ extent_of s
  refused_extent why e = go (cut_short s) refl (kind_named (kind_of s)) refl e
    where
      go : (b : Bool) → cut_short s ≡ b → (o : Option Kind) → kind_named (kind_of s) ≡ o
          → ◌≡◌ {A = Result Kind Refusal} (cond b (Err CutShort) (ok_or o UnknownKind)) (Err why) → 0 ≡ extent_of s
      go true a o n e = cut_extent a
      go false a None n e = sym (unlisted_short n) ∙ extent_whole s (uncut s a)
      go false a (Some x) n e = never cc

  -- ---- what a reading is, by its fields and its leftover bits

  module _ (k : Kind) (v : List ℕ) (n x : ℕ) (e : front_of s ≡ Ok k) (f : v ≡ fields (layout_of (number_of k)) s) (g : n ≡ (kind_at (number_of k)).fields)
      (u : x ≡ get_or v (n + 1) 0) where
    left_is : x ≡ leftover_of (kind_of s) (values_of s)
    left_is =
        let j = (front_is k e).kind in
        u ∙ rw add-one ((λ i. at (f i) (suc (g i))) ∙ ap (λ (i : ℕ). leftover_of i (fields (layout_of i) s)) j)

    pub left_set : 0 < x → refused Leftover ≡ read_of s
    left_set h =
        let j = front_is k e in
        read_leftover s j.whole j.known (ap (ltb 0) (sym left_is) ∙ lt-ltb 0 x h)

    pub left_clear : x ≤ 0 → heard (number_of k) v ≡ read_of s
    left_clear h =
        let j = front_is k e in
        ap (heard (number_of k)) f ∙ ap (λ (i : ℕ). heard i (fields (layout_of i) s)) j.kind
        ∙ read_heard s j.whole j.known (ap (ltb 0) (sym left_is) ∙ le-ltb 0 x h)
