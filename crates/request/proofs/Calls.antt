-- The laws of each kind: the fields of a call are those that its kind reads back as the call, and fields that are read are those of their call.
-- A new kind is a new clause of each law. Assumes nothing.
use Rattle.std.specs.Prelude.{Ok}
use Prim.Native.Nat.{ℕ, zero, suc, ◌+◌, ◌-◌, ◌^◌, ◌≤◌, ◌<◌}
use mathlib.Core.Path.{◌≡◌, refl, sym, ap, ◌∙◌, subst⁻¹}
use mathlib.Core.List.{List, [], ◌∷◌, ◌++◌}
use native.Mathlib.Omega.{arith}
use lib.Dec.{lit<}
use lib.Pow.{pow_pos}
use lib.ListN.{length, take, drop, length-drop, take-append-drop}
use lib.Seq.{get_or-drop, drop-cons, length-take-le}
use Rattle.layout.specs.Layout.{size, packed, Within}
use Rattle.layout.proofs.Packing.{within_append}
use Rattle.course.specs.declared.Course.{Course}
use Rattle.course.specs.declared.Course.TheVariants.{Uncut, Between}
use Rattle.road.specs.declared.Source.{Source}
use Rattle.road.specs.Results.{Verdict}
use Rattle.road.proofs.Fit.{past, fit_course, piece_within, ends_within, source_within, receiver_within, wall_within}
use Rattle.road.proofs.Judged.{slot_allowed}
use Rattle.road.proofs.Rows as rows
use Rattle.road.proofs.Rows.{upto, all_of, upto_take, source_values_again}
use Rattle.road.specs.Fields.{piece_table, ends_table, length_table, receiver_table, wall_table, bits_by, values_by, source_table, piece_of, source_of}
use Rattle.road.specs.Judge.{receiver_fields, wall_fields, source_fields, unless_outside, course_verdict, rest_verdict, source_verdict, receiver_verdict, wall_verdict, slot_verdict}
use Rattle.daily.specs.Daily.{daily_bits, daily_fields, daily_verdict}
use Rattle.daily.proofs.Laws.{daily_within}
use Rattle.request.specs.declared.Counts.TheVariants.{ByPeriod, ByDay}
use Rattle.request.specs.declared.Request.{Request}
use Rattle.request.specs.declared.Request.TheVariants.{PlaceReceiver, WithdrawReceiver, PlaceSource, WithdrawSource, Ask, PlaceWall, WithdrawWall}
use Rattle.request.specs.Record.{record_of}
use Rattle.request.specs.Inner.{filled, first_of}
use Rattle.request.proofs.Laws.{first_filled}
use Rattle.request.specs.Kinds.{kind_bits, source_slot_bits, receiver_slot_bits, wall_slot_bits, last_named_source, at, kind_at, layout_of, call_in, source_in, leftover_of, verdict_of, course_kind, kind_number, placed_fields, fields_of, source_with}

-- ---- an allowed call has fields that fit

-- a source on its course
placed_within : (c : Course) (slot : ℕ) (s : Source) → slot ≤ last_named_source → course_verdict c (rest_verdict s) ≡ Ok tt
    → Within (layout_of (course_kind c)) (placed_fields c slot (source_fields s))
unfolding kind_at
placed_within (Uncut p) slot s h e =
    let w = source_within s (past piece_table p (rest_verdict s) e).1 in
    (lit< tt, (omega arith, within_append (bits_by piece_table) (values_by piece_table p) (bits_by source_table) (source_fields s) (piece_within p (rest_verdict s) e) w))
placed_within (Between d) slot s h e =
    let w = source_within s (fit_course (Between d) (rest_verdict s) e).1 in
    let r = within_append (bits_by source_table) (source_fields s) (1 ∷ []) (0 ∷ []) w (lit< tt, tt) in
    (lit< tt, (omega arith, within_append (bits_by ends_table) (values_by ends_table d) (bits_by source_table ++ (1 ∷ [])) (source_fields s ++ (0 ∷ [])) (ends_within d (unless_outside length_table d (rest_verdict s)) e) r))

-- a slot that is allowed, fields that fit if they are, and leftover bits, which are zero
slot_within : (k b left slot : ℕ) (ws fs : List ℕ) (v : Verdict) → k < 2 ^ kind_bits → (v ≡ Ok tt → Within ws fs) → slot_verdict (2 ^ b - 1) slot v ≡ Ok tt
    → Within (kind_bits ∷ b ∷ (ws ++ (left ∷ []))) (k ∷ slot ∷ (fs ++ (0 ∷ [])))
slot_within k b left slot ws fs v h w e =
    let a = slot_allowed (2 ^ b - 1) slot v e in
    (h, (omega (arith, pow_pos b, a.0), within_append ws fs (left ∷ []) (0 ∷ []) (w a.1) (pow_pos left, tt)))

pub call_within : (c : Request) (s : Source) → verdict_of c s ≡ Ok tt → Within (layout_of (kind_number c s)) (fields_of c s)
unfolding kind_at verdict_of source_verdict daily_verdict
call_within (PlaceReceiver slot r) s e = slot_within 1 receiver_slot_bits 5 slot (bits_by receiver_table) (receiver_fields r) (receiver_verdict r) (lit< tt) (receiver_within r) e
call_within (WithdrawReceiver slot) s e = slot_within 2 receiver_slot_bits 6 slot [] [] (Ok tt) (lit< tt) (λ a. tt) e
call_within (PlaceSource slot ByPeriod) s e =
    let a = slot_allowed last_named_source slot (source_verdict s) e in
    placed_within s.course slot s a.0 a.1
call_within (PlaceSource slot (ByDay p d)) s e =
    let a = slot_allowed last_named_source slot (daily_verdict (Uncut p) d s) e in
    let r = within_append daily_bits (daily_fields d s) (2 ∷ []) (0 ∷ []) (daily_within (Uncut p) d s a.1) (lit< tt, tt) in
    (lit< tt, (omega (arith, a.0), within_append (bits_by piece_table) (values_by piece_table p) (daily_bits ++ (2 ∷ [])) (daily_fields d s ++ (0 ∷ [])) (piece_within p _ a.1) r))
call_within (WithdrawSource slot) s e = slot_within 4 source_slot_bits 3 slot [] [] (Ok tt) (lit< tt) (λ a. tt) e
call_within (Ask slot) s e = slot_within 5 receiver_slot_bits 6 slot [] [] (Ok tt) (lit< tt) (λ a. tt) e
call_within (PlaceWall slot w) s e = slot_within 8 wall_slot_bits 3 slot (bits_by wall_table) (wall_fields w) (wall_verdict w) (lit< tt) (wall_within w) e
call_within (WithdrawWall slot) s e = slot_within 9 wall_slot_bits 6 slot [] [] (Ok tt) (lit< tt) (λ a. tt) e

-- ---- from a call to its fields and back

placed_length : (c : Course) (slot : ℕ) (s : Source) → length (placed_fields c slot (source_fields s)) ≡ length (layout_of (course_kind c))
unfolding kind_at
placed_length (Uncut p) slot s = refl
placed_length (Between e) slot s = refl

pub call_length : (c : Request) (s : Source) → length (fields_of c s) ≡ length (layout_of (kind_number c s))
unfolding kind_at
call_length (PlaceReceiver slot r) s = refl
call_length (WithdrawReceiver slot) s = refl
call_length (PlaceSource slot ByPeriod) s = placed_length s.course slot s
call_length (PlaceSource slot (ByDay p d)) s = refl
call_length (WithdrawSource slot) s = refl
call_length (Ask slot) s = refl
call_length (PlaceWall slot w) s = refl
call_length (WithdrawWall slot) s = refl

placed_listed : (c : Course) → 0 < size (layout_of (course_kind c))
unfolding kind_at
placed_listed (Uncut p) = lit< tt
placed_listed (Between e) = lit< tt

pub call_listed : (c : Request) (s : Source) → 0 < size (layout_of (kind_number c s))
unfolding kind_at
call_listed (PlaceReceiver slot r) s = lit< tt
call_listed (WithdrawReceiver slot) s = lit< tt
call_listed (PlaceSource slot ByPeriod) s = placed_listed s.course
call_listed (PlaceSource slot (ByDay p d)) s = lit< tt
call_listed (WithdrawSource slot) s = lit< tt
call_listed (Ask slot) s = lit< tt
call_listed (PlaceWall slot w) s = lit< tt
call_listed (WithdrawWall slot) s = lit< tt

placed_kind : (c : Course) (slot : ℕ) (rest : List ℕ) → at (placed_fields c slot rest) 0 ≡ course_kind c
placed_kind (Uncut p) slot rest = refl
placed_kind (Between e) slot rest = refl

pub call_kind : (c : Request) (s : Source) → at (fields_of c s) 0 ≡ kind_number c s
call_kind (PlaceReceiver slot r) s = refl
call_kind (WithdrawReceiver slot) s = refl
call_kind (PlaceSource slot ByPeriod) s = placed_kind s.course slot (source_fields s)
call_kind (PlaceSource slot (ByDay p d)) s = refl
call_kind (WithdrawSource slot) s = refl
call_kind (Ask slot) s = refl
call_kind (PlaceWall slot w) s = refl
call_kind (WithdrawWall slot) s = refl

placed_leftover : (c : Course) (slot : ℕ) (s : Source) → leftover_of (course_kind c) (placed_fields c slot (source_fields s)) ≡ 0
unfolding kind_at
placed_leftover (Uncut p) slot s = refl
placed_leftover (Between e) slot s = refl

pub call_leftover : (c : Request) (s : Source) → leftover_of (kind_number c s) (fields_of c s) ≡ 0
unfolding kind_at
call_leftover (PlaceReceiver slot r) s = refl
call_leftover (WithdrawReceiver slot) s = refl
call_leftover (PlaceSource slot ByPeriod) s = placed_leftover s.course slot s
call_leftover (PlaceSource slot (ByDay p d)) s = refl
call_leftover (WithdrawSource slot) s = refl
call_leftover (Ask slot) s = refl
call_leftover (PlaceWall slot w) s = refl
call_leftover (WithdrawWall slot) s = refl

placed_again : (c : Course) (slot : ℕ) (rest : List ℕ) → call_in (course_kind c) (placed_fields c slot rest) ≡ PlaceSource slot ByPeriod
unfolding kind_at
placed_again (Uncut p) slot rest = refl
placed_again (Between e) slot rest = refl

pub call_again : (c : Request) (s : Source) → call_in (kind_number c s) (fields_of c s) ≡ c
unfolding kind_at
call_again (PlaceReceiver slot r) s = refl
call_again (WithdrawReceiver slot) s = refl
call_again (PlaceSource slot ByPeriod) s = placed_again s.course slot (source_fields s)
call_again (PlaceSource slot (ByDay p d)) s = refl
call_again (WithdrawSource slot) s = refl
call_again (Ask slot) s = refl
call_again (PlaceWall slot w) s = refl
call_again (WithdrawWall slot) s = refl

placed_source : (c : Course) (slot : ℕ) (s : Source) → source_in (course_kind c) (placed_fields c slot (source_fields s)) ≡ source_of c (source_fields s)
unfolding kind_at
placed_source (Uncut p) slot s = refl
placed_source (Between e) slot s = refl

pub source_again : (c : Request) (s : Source) → length s.traffic ≡ 3 → source_in (kind_number c s) (fields_of c s) ≡ source_with c s
unfolding kind_at
source_again (PlaceReceiver slot r) s h = refl
source_again (WithdrawReceiver slot) s h = refl
source_again (PlaceSource slot ByPeriod) s h = placed_source s.course slot s ∙ rows.source_again s h
source_again (PlaceSource slot (ByDay p d)) s h = refl
source_again (WithdrawSource slot) s h = refl
source_again (Ask slot) s h = refl
source_again (PlaceWall slot w) s h = refl
source_again (WithdrawWall slot) s h = refl

-- a source counts only beside a call that places it
pub verdict_with : (c : Request) (s : Source) → verdict_of c (source_with c s) ≡ verdict_of c s
unfolding verdict_of daily_verdict
verdict_with (PlaceReceiver slot r) s = refl
verdict_with (WithdrawReceiver slot) s = refl
verdict_with (PlaceSource slot ByPeriod) s = refl
verdict_with (PlaceSource slot (ByDay p d)) s = refl
verdict_with (WithdrawSource slot) s = refl
verdict_with (Ask slot) s = refl
verdict_with (PlaceWall slot w) s = refl
verdict_with (WithdrawWall slot) s = refl

-- ---- the fields of a call in the writer's array

module _ (c : Request) (s : Source) (k : ℕ) (v : List ℕ) (e : k ≡ kind_number c s) (f : v ≡ filled (fields_of c s)) where
  first_fields : first_of k v ≡ fields_of c s
  first_fields = (λ i. first_of (e i) (f i)) ∙ first_filled (kind_number c s) (fields_of c s) (call_length c s)

  pub written_within : verdict_of c s ≡ Ok tt → Within (layout_of k) (first_of k v)
  written_within h = subst⁻¹ (λ (j : ℕ). Within (layout_of j) (first_of k v)) e (subst⁻¹ (Within (layout_of (kind_number c s))) first_fields (call_within c s h))

  pub written_record : packed (layout_of k) (first_of k v) ≡ record_of c s
  unfolding record_of
  written_record = λ i. packed (layout_of (e i)) (first_fields i)

-- ---- from fields to their call and back

pub kind_again : (k slot : ℕ) (v : List ℕ) → 0 < size (layout_of k) → kind_number ((kind_at k).call slot v) ((kind_at k).source v) ≡ k
unfolding kind_at
kind_again zero slot v h = absurd (omega arith)
kind_again (suc zero) slot v h = refl
kind_again (suc (suc zero)) slot v h = refl
kind_again (suc (suc (suc zero))) slot v h = refl
kind_again (suc (suc (suc (suc zero)))) slot v h = refl
kind_again (suc (suc (suc (suc (suc zero))))) slot v h = refl
kind_again (suc (suc (suc (suc (suc (suc zero)))))) slot v h = refl
kind_again (suc (suc (suc (suc (suc (suc (suc zero))))))) slot v h = refl
kind_again (suc (suc (suc (suc (suc (suc (suc (suc zero)))))))) slot v h = refl
kind_again (suc (suc (suc (suc (suc (suc (suc (suc (suc zero))))))))) slot v h = refl
kind_again (suc (suc (suc (suc (suc (suc (suc (suc (suc (suc k)))))))))) slot v h = absurd (omega arith)

-- n fields and the leftover bits, which are zero
left_over : (n : ℕ) (v : List ℕ) → length v ≡ suc n → at v n ≡ 0 → upto (at v) n ++ (0 ∷ []) ≡ v
left_over n [] l e = absurd (omega arith)
left_over zero (x ∷ []) l e = λ i. sym e i ∷ []
left_over zero (x ∷ y ∷ v) l e = absurd (omega arith)
left_over (suc n) (x ∷ v) l e = ap (λ (r : List ℕ). x ∷ r) (left_over n v (omega arith) e)

-- kind and slot, and the fields after them
module _ (k : ℕ) (v : List ℕ) (n : ℕ) (l : length v ≡ suc (suc n)) (e : at v 0 ≡ k) where
  begun : {r : List ℕ} → r ≡ drop 2 v → k ∷ at v 1 ∷ r ≡ v
  begun f = (λ i. sym e i ∷ at v 1 ∷ f i) ∙ sym (drop-cons v 0 0 (omega arith) ∙ ap (λ (r : List ℕ). at v 0 ∷ r) (drop-cons v 1 0 (omega arith)))

  after : length (drop 2 v) ≡ n
  after = omega (arith, length-drop 2 v)

-- and leftover bits, which are zero
begun_over : (k : ℕ) (v : List ℕ) (n : ℕ) → length v ≡ suc (suc (suc n)) → at v 0 ≡ k → at v (2 + n) ≡ 0
    → k ∷ at v 1 ∷ (upto (at (drop 2 v)) n ++ (0 ∷ [])) ≡ v
begun_over k v n l e z = begun k v (suc n) l e (left_over n (drop 2 v) (after k v (suc n) l e) (get_or-drop 2 v n 0 ∙ z))

-- the first n of some numbers, and what follows them
front : (n : ℕ) (w : List ℕ) → n ≤ length w → {r : List ℕ} → r ≡ drop n w → upto (at w) n ++ r ≡ w
front n w h e = (λ i. (sym (upto_take n w) ∙ all_of n (take n w) (length-take-le n w h)) i ++ e i) ∙ take-append-drop n w

-- the first n and m after them, and leftover bits, which are zero
front_over : (n m : ℕ) (w : List ℕ) → length w ≡ n + suc m → at w (n + m) ≡ 0 → upto (at w) n ++ (upto (at (drop n w)) m ++ (0 ∷ [])) ≡ w
front_over n m w l z = front n w (omega arith) (left_over m (drop n w) (omega (arith, length-drop n w)) (get_or-drop n w m 0 ∙ z))

pub fields_again : (k : ℕ) (v : List ℕ) → 0 < size (layout_of k) → length v ≡ length (layout_of k) → at v 0 ≡ k → leftover_of k v ≡ 0
    → fields_of (call_in k v) (source_in k v) ≡ v
unfolding kind_at
fields_again zero v h l e f = absurd (omega arith)
fields_again (suc zero) v h l e f = begun_over 1 v (length receiver_table) l e f
fields_again (suc (suc zero)) v h l e f = begun_over 2 v 0 l e f
fields_again (suc (suc (suc zero))) v h l e f =
    let w = drop 2 v in
    let n = after 3 v 18 l e in
    begun 3 v 18 l e (front (length piece_table) w (omega arith) (source_values_again (Uncut (piece_of w)) (drop (length piece_table) w) (omega (arith, length-drop (length piece_table) w))))
fields_again (suc (suc (suc (suc zero)))) v h l e f = begun_over 4 v 0 l e f
fields_again (suc (suc (suc (suc (suc zero))))) v h l e f = begun_over 5 v 0 l e f
fields_again (suc (suc (suc (suc (suc (suc zero)))))) v h l e f =
    begun 6 v 15 l e (front_over (length piece_table) (length daily_bits) (drop 2 v) (after 6 v 15 l e) (get_or-drop 2 v 14 0 ∙ f))
fields_again (suc (suc (suc (suc (suc (suc (suc zero))))))) v h l e f =
    begun 7 v 20 l e (front_over (length ends_table) (length source_table) (drop 2 v) (after 7 v 20 l e) (get_or-drop 2 v 19 0 ∙ f))
fields_again (suc (suc (suc (suc (suc (suc (suc (suc zero)))))))) v h l e f = begun_over 8 v (length wall_table) l e f
fields_again (suc (suc (suc (suc (suc (suc (suc (suc (suc zero))))))))) v h l e f = begun_over 9 v 0 l e f
fields_again (suc (suc (suc (suc (suc (suc (suc (suc (suc (suc k)))))))))) v h l e f = absurd (omega arith)
