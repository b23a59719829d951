-- The round trips of a record, for every kind: what is read and written again is the same bytes, and what is written and read again the same fields.
-- And its part: the bytes of a record that is read, and none of one that is refused. Assumes nothing.
use Rattle.std.specs.Prelude.{Ok, Err}
use Prim.Native.Nat.{ℕ, zero, suc, ◌≤◌, ◌<◌}
use mathlib.Core.Path.{◌≡◌, refl, sym, ap, ap₂, ◌∙◌}
use mathlib.Core.Bool.{Bool, true, false, cond, ◌||◌}
use mathlib.Core.List.{List, [], ◌++◌}
use native.Mathlib.Omega.{arith}
use borrow.Author.Tests.{ltb-false, eqb-false, le-ltb, ne_eqb}
use lib.Dec.{ltb}
use lib.ListN.{length, take, drop, length-append}
use Rattle.layout.specs.Layout.{size, bits, fields, packed, Bytes, Within}
use Rattle.layout.proofs.Numbers.{bytes_append, bytes_drop}
use Rattle.layout.proofs.Laws.{length_fields, length_packed, packed_bytes, fields_packed, packed_fields, field_bits}
use Rattle.answer.specs.declared.Refusal.{Refusal}
use Rattle.answer.specs.declared.Refusal.TheVariants.{CutShort, UnknownKind, Leftover}
use Rattle.road.specs.declared.Source.{Source}
use Rattle.road.specs.Results.{Verdict}
use Rattle.request.specs.declared.Request.{Request}
use Rattle.request.specs.Record.{Told}
use Rattle.request.specs.declared.Reading.{Reading}
use Rattle.request.specs.Record.{Written}
use Rattle.request.specs.Kinds.{at, kind_at, layout_of, call_in, source_in, leftover_of, verdict_of, kind_number, fields_of, source_with}
use Rattle.request.specs.Record.{kind_of, length_of, values_of, cut_short, unknown_kind, leftover_set, reading, refused, judged, heard_by, heard, read_of, extent_of, part_by, part_of, record_of, written_by, write_of}
use Rattle.request.proofs.Rows.{row_sized, row_begun}
use Rattle.request.proofs.Laws.{uncut, extent_whole, read_heard, write_done}
use Rattle.request.proofs.Calls.{call_within, call_listed, call_kind, call_leftover, call_again, source_again, verdict_with, kind_again, fields_again}

-- the first field of a whole record is its kind
kind_first : (k : ℕ) (s : List ℕ) → 0 < size (layout_of k) → size (layout_of k) ≤ length s → Bytes s → at (fields (layout_of k) s) 0 ≡ kind_of s
kind_first k s h l b =
    let g = row_begun k h in
    field_bits (layout_of k) s 0 (row_sized k) l b (omega (arith, g.two)) ∙ ap (λ (n : ℕ). bits 0 n s) g.kind

-- ---- what is accepted

module _ (c : Request) (r : Source) where
  refused_not : {A : Type 0} (why : Refusal) → refused why ≡ reading (Ok c) r → A
  refused_not why e =
      let t : Err why ≡ Ok c = ap (λ (x : Reading). x.told) e in
      let z : ◌≡◌ {A = ℕ} 0 1 = cc in
      absurd (omega arith)

  past : (b : Bool) (why : Refusal) (x : Reading) → cond b (refused why) x ≡ reading (Ok c) r
      → (b ≡ false) × (x ≡ reading (Ok c) r)
  past true why x e = refused_not why e
  past false why x e = (refl, e)

  heard_call : (v : Verdict) (d : Request) (q : Source) → judged v d q ≡ reading (Ok c) r → (v ≡ Ok tt) × ((d ≡ c) × (q ≡ r))
  heard_call (Ok tt) d q e =
      let t : Ok d ≡ Ok c = ap (λ (x : Reading). x.told) e in
      (refl, (cc, ap (λ (x : Reading). x.source) e))
  heard_call (Err why) d q e = refused_not why e

pub record Accepted (s : List ℕ) (c : Request) (r : Source) : Type 0 where
  pub listed : 0 < length_of s
  pub whole : length_of s ≤ length s
  pub clean : leftover_of (kind_of s) (values_of s) ≡ 0
  pub call : call_in (kind_of s) (values_of s) ≡ c
  pub source : source_in (kind_of s) (values_of s) ≡ r
  pub allowed : verdict_of c r ≡ Ok tt

pub accepted : (s : List ℕ) (c : Request) (r : Source) → read_of s ≡ reading (Ok c) r → Accepted s c r
unfolding read_of
accepted s c r e =
    let k = kind_of s in
    let v = values_of s in
    let d = call_in k v in
    let q = source_in k v in
    let p1 = past c r (cut_short s) CutShort (cond (unknown_kind s) (refused UnknownKind) (cond (leftover_set s) (refused Leftover) (heard k v))) e in
    let p2 = past c r (unknown_kind s) UnknownKind (cond (leftover_set s) (refused Leftover) (heard k v)) p1.1 in
    let p3 = past c r (leftover_set s) Leftover (heard k v) p2.1 in
    let j = heard_call c r (verdict_of d q) d q p3.1 in
    record {
      listed = listed (length_of s) (eqb-false (length_of s) 0 p2.0);
      whole = uncut s p1.0;
      clean = clean (leftover_of k v) (ltb-false 0 (leftover_of k v) p3.0);
      call = j.1.0;
      source = j.1.1;
      allowed = sym (ap₂ verdict_of j.1.0 j.1.1) ∙ j.0;
    }
  where
    listed : (n : ℕ) → (n ≡ 0 → ⊥) → 0 < n
    listed n h = omega arith

    clean : (n : ℕ) → n ≤ 0 → n ≡ 0
    clean n h = omega arith

-- ---- read, and written again: the same bytes

pub write_read : (s out : List ℕ) (c : Request) (r : Source) → Bytes s → extent_of s ≤ length out → read_of s ≡ reading (Ok c) r
    → ◌≡◌ {A = Written × List ℕ} (write_of c r out) (Ok tt, take (extent_of s) s ++ drop (extent_of s) out)
unfolding record_of
write_read s out c r b l e =
    let a = accepted s c r e in
    let k = kind_of s in
    let v = values_of s in
    let x : extent_of s ≡ length_of s = sym (extent_whole s a.whole) in
    let n : kind_number c r ≡ k = sym (ap₂ kind_number a.call a.source) ∙ kind_again k (at v 1) (drop 2 v) a.listed in
    let f : fields_of c r ≡ v =
    sym (ap₂ fields_of a.call a.source)
    ∙ fields_again k v a.listed (length_fields (layout_of k) s) (kind_first k s a.listed a.whole b) a.clean in
    let z : size (layout_of (kind_number c r)) ≡ extent_of s = ap (λ (j : ℕ). size (layout_of j)) n ∙ sym x in
    let p : record_of c r ≡ take (extent_of s) s =
    (λ i. packed (layout_of (n i)) (f i)) ∙ packed_fields (layout_of k) s (row_sized k) a.whole b ∙ ap (λ (j : ℕ). take j s) (sym x) in
    sym (write_done c r out a.allowed (omega arith)) ∙ (λ i. (Ok tt, p i ++ drop (z i) out))

-- ---- written, and read again: the same fields

-- what is written is the record, and the rest of the output
done_bytes : (v : Verdict) (bytes out t : List ℕ) → ◌≡◌ {A = Written × List ℕ} (written_by v bytes out) (Ok tt, t)
    → (v ≡ Ok tt) × (t ≡ bytes ++ drop (length bytes) out)
done_bytes (Err why) bytes out t e =
    let w : Err why ≡ (Ok tt) = ap (λ (x : Written × List ℕ). x.0) e in
    let z : ◌≡◌ {A = ℕ} 0 1 = cc in
    absurd (omega arith)
done_bytes (Ok tt) bytes out t e = (refl, go (ltb (length out) (length bytes)) e)
  where
    go : (b : Bool) → ◌≡◌ {A = Written × List ℕ} (cond b (Err CutShort, out) (Ok tt, bytes ++ drop (length bytes) out)) (Ok tt, t)
        → t ≡ bytes ++ drop (length bytes) out
    go true f =
        let w : Err CutShort ≡ (Ok tt) = ap (λ (x : Written × List ℕ). x.0) f in
        let z : ◌≡◌ {A = ℕ} 0 1 = cc in
        absurd (omega arith)
    go false f = sym (ap (λ (x : Written × List ℕ). x.1) f)

-- a whole record of a kind that has no leftover bit set is read by its fields
pub read_fields : (k : ℕ) (t : List ℕ) → 0 < size (layout_of k) → size (layout_of k) ≤ length t → kind_of t ≡ k → leftover_of k (fields (layout_of k) t) ≡ 0
    → read_of t ≡ heard k (fields (layout_of k) t)
read_fields k t h l e z =
    let n : length_of t ≡ size (layout_of k) = ap (λ (j : ℕ). size (layout_of j)) e in
    let some : length t ≡ 0 → ⊥ = λ q. omega arith in
    let cut : cut_short t ≡ false = ap₂ ◌||◌ (ne_eqb (length t) 0 some) (le-ltb (length t) (length_of t) (omega arith)) in
    let known : length_of t ≡ 0 → ⊥ = λ q. omega arith in
    let left : leftover_of (kind_of t) (values_of t) ≡ 0 = ap (λ (j : ℕ). leftover_of j (fields (layout_of j) t)) e ∙ z in
    sym (read_heard t cut (ne_eqb (length_of t) 0 known) (le-ltb 0 (leftover_of (kind_of t) (values_of t)) (omega arith)))
    ∙ ap (λ (j : ℕ). heard j (fields (layout_of j) t)) e

-- the record of a call whose fields fit is read as the call, if it is allowed
pub read_record : (c : Request) (r : Source) (rest : List ℕ) → Within (layout_of (kind_number c r)) (fields_of c r) → Bytes rest → length r.traffic ≡ 3
    → read_of (record_of c r ++ rest) ≡ heard_by c (source_with c r)
unfolding record_of
read_record c r rest w b h =
    let k = kind_number c r in
    let v = fields_of c r in
    let p = packed (layout_of k) v in
    let t = p ++ rest in
    let f : fields (layout_of k) t ≡ v = fields_packed (layout_of k) v rest (row_sized k) w in
    let l : size (layout_of k) ≤ length t = omega (arith, length-append p rest, length_packed (layout_of k) v) in
    let y : Bytes t = bytes_append p rest (packed_bytes (layout_of k) v) b in
    let n : kind_of t ≡ k = sym (kind_first k t (call_listed c r) l y) ∙ ap (λ (x : List ℕ). at x 0) f ∙ call_kind c r in
    read_fields k t (call_listed c r) l n (ap (leftover_of k) f ∙ call_leftover c r)
    ∙ ap (heard k) f
    ∙ ap₂ heard_by (call_again c r) (source_again c r h)

pub read_written : (c : Request) (r : Source) (out t : List ℕ) → Bytes out → length r.traffic ≡ 3
    → ◌≡◌ {A = Written × List ℕ} (write_of c r out) (Ok tt, t) → read_of t ≡ reading (Ok c) (source_with c r)
unfolding write_of
read_written c r out t b h e =
    let p = record_of c r in
    let d = done_bytes (verdict_of c r) p out t e in
    ap read_of d.1
    ∙ read_record c r (drop (length p) out) (call_within c r d.0) (bytes_drop (length p) out b) h
    ∙ ap (λ (x : Verdict). judged x c (source_with c r)) (verdict_with c r ∙ d.0)

-- ---- the part

pub part_read : (s : List ℕ) (c : Request) → (read_of s).told ≡ Ok c → part_of s ≡ take (extent_of s) s
unfolding part_of
part_read s c e = ap (λ (x : Told). part_by x s) e

pub part_refused : (s : List ℕ) (why : Refusal) → (read_of s).told ≡ Err why → part_of s ≡ []
unfolding part_of
part_refused s why e = ap (λ (x : Told). part_by x s) e

-- ---- a source that is read has three periods, like every source of the code

kind_periods : (k : ℕ) (v : List ℕ) → length ((kind_at k).source v).traffic ≡ 3
unfolding kind_at
kind_periods zero v = refl
kind_periods (suc zero) v = refl
kind_periods (suc (suc zero)) v = refl
kind_periods (suc (suc (suc zero))) v = refl
kind_periods (suc (suc (suc (suc zero)))) v = refl
kind_periods (suc (suc (suc (suc (suc zero))))) v = refl
kind_periods (suc (suc (suc (suc (suc (suc zero)))))) v = refl
kind_periods (suc (suc (suc (suc (suc (suc (suc zero))))))) v = refl
kind_periods (suc (suc (suc (suc (suc (suc (suc (suc zero)))))))) v = refl
kind_periods (suc (suc (suc (suc (suc (suc (suc (suc (suc zero))))))))) v = refl
kind_periods (suc (suc (suc (suc (suc (suc (suc (suc (suc (suc k)))))))))) v = refl

judged_periods : (v : Verdict) (c : Request) (s : Source) → length s.traffic ≡ 3 → length (judged v c s).source.traffic ≡ 3
judged_periods (Ok tt) c s e = e
judged_periods (Err why) c s e = refl

either_periods : (t : Bool) (a b : Reading) → length a.source.traffic ≡ 3 → length b.source.traffic ≡ 3 → length (cond t a b).source.traffic ≡ 3
either_periods true a b p q = p
either_periods false a b p q = q

pub three_periods : (s : List ℕ) → length (read_of s).source.traffic ≡ 3
unfolding read_of
three_periods s =
    let c = call_in (kind_of s) (values_of s) in
    let r = source_in (kind_of s) (values_of s) in
    either_periods (cut_short s) _ _ refl
    (either_periods (unknown_kind s) _ _ refl
    (either_periods (leftover_set s) _ _ refl (judged_periods (verdict_of c r) c r (kind_periods (kind_of s) (drop 2 (values_of s))))))
