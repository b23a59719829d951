-- Sources, receivers and walls are parties that the laws of slots hold for. Assumes nothing.
use Rattle.std.proofs.Common.{rules}
use Rattle.std.specs.Prelude.{Ok, Err, is_err}
use Prim.Native.Nat.{ℕ, ◌≤◌}
use mathlib.Core.Path.{◌≡◌, refl, sym, ap, ap₂, ◌∙◌}
use mathlib.Core.Bool.{Bool, true, false, not, ◌&&◌, ◌||◌, true≢false}
use mathlib.Core.List.{List, [], ◌∷◌, ◌++◌}
use native.Mathlib.Omega.{arith}
use borrow.Author.Tests.{eqb-true}
use lib.Dec.{eqb}
use lib.ListN.{length, take, drop, length-drop, take-append-drop}
use Rattle.layout.specs.Layout.{Within}
use Rattle.layout.proofs.Bounds.{both}
use Rattle.course.specs.declared.Course.{Course}
use Rattle.course.specs.declared.Course.TheVariants.{Uncut, Between}
use Rattle.screen.specs.declared.Wall.{Wall}
use Rattle.road.specs.declared.Source.{Source}
use Rattle.road.specs.Results.{Verdict}
use Rattle.road.specs.Fields.{source_table, receiver_table, wall_table, source_of, values_by, slot_bits_by}
use Rattle.road.specs.Judge.{source_verdict, receiver_verdict, wall_verdict}
use Rattle.road.proofs.Rows.{source_again, source_values_again, all_of}
use Rattle.road.proofs.Fit.{FitCourse, rest_allowed, source_in_slot, receiver_in_slot, wall_in_slot}
use Rattle.store.specs.declared.Held.{Held}
use Rattle.account.specs.Account.{sound}
use Rattle.store.specs.Slots.{party_layout}
use Rattle.store.specs.Store.{is_allowed, course_numbers, course_bits, is_course, course_from, source_from, source_party, held_fields, held_from, held_party, wall_from, wall_party, SourceStands, HeldStands, WallStands}
use Rattle.store.proofs.Slots.{Lawful, two_within}

-- ---- sources

allowed_is : (v : Verdict) → is_allowed v ≡ true → v ≡ Ok tt
allowed_is (Ok tt) e = refl
allowed_is (Err why) e = absurd (let z : ◌≡◌ {A = ℕ} 0 1 = cc in omega arith)

pub refused_is : (v : Verdict) → is_err v ≡ not (is_allowed v)
refused_is (Ok tt) = refl
refused_is (Err why) = refl

-- the first of two tests decides, or leaves it to the second
pub refused_first : (v : Verdict) (b : Bool) → is_err v ≡ true → is_err v ≡ not (is_allowed v && b)
refused_first (Ok tt) b e = absurd (true≢false (sym e))
refused_first (Err why) b e = refl

pub refused_second : (v : Verdict) (b : Bool) → is_err v ≡ false → not b ≡ not (is_allowed v && b)
refused_second (Ok tt) b e = refl
refused_second (Err why) b e = absurd (true≢false e)

pub no_course : (b : Bool) (v : Verdict) → b ≡ false → not b ≡ not (b && is_allowed v)
no_course true v e = absurd (true≢false e)
no_course false v e = refl

pub with_course : (b : Bool) (v : Verdict) → b ≡ true → is_err v ≡ not (b && is_allowed v)
with_course true v e = refused_is v
with_course false v e = absurd (true≢false (sym e))

-- what is written of a course is one, is read again, and the rest stands behind it
course_known : (c : Course) (rest : List ℕ) → is_course (course_numbers c ++ rest) ≡ true
course_known (Uncut p) rest = refl
course_known (Between e) rest = refl

course_back : (c : Course) (rest : List ℕ) → course_from (course_numbers c ++ rest) ≡ c
course_back (Uncut p) rest = refl
course_back (Between e) rest = refl

course_behind : (c : Course) (rest : List ℕ) → drop (length course_bits) (course_numbers c ++ rest) ≡ rest
course_behind (Uncut p) rest = refl
course_behind (Between e) rest = refl

course_fits : (c : Course) → FitCourse c → Within course_bits (course_numbers c)
course_fits (Uncut p) f = (omega arith, (omega (arith, f.x), (omega (arith, f.y), (omega (arith, f.short), (omega arith, tt)))))
course_fits (Between e) f =
    let m = f.mapped in
    (omega arith, (omega (arith, m.x1), (omega (arith, m.y1), (omega (arith, m.x2), (omega (arith, m.y2), tt)))))

-- numbers of a course are written again as they are
course_again : (v : List ℕ) → length course_bits ≤ length v → is_course v ≡ true → course_numbers (course_from v) ≡ take (length course_bits) v
course_again [] l h = absurd (omega arith)
course_again (a ∷ []) l h = absurd (omega arith)
course_again (a ∷ b ∷ []) l h = absurd (omega arith)
course_again (a ∷ b ∷ d ∷ []) l h = absurd (omega arith)
course_again (a ∷ b ∷ d ∷ e ∷ []) l h = absurd (omega arith)
course_again (a ∷ b ∷ d ∷ e ∷ f ∷ v) l h = go (eqb a 1) refl h
  where
    go : (t : Bool) → eqb a 1 ≡ t → (t || (eqb a 0 && eqb f 0)) ≡ true → course_numbers (course_from (a ∷ b ∷ d ∷ e ∷ f ∷ v)) ≡ a ∷ b ∷ d ∷ e ∷ f ∷ []
    go true g k = rw g (ap (λ (n : ℕ). n ∷ b ∷ d ∷ e ∷ f ∷ []) (sym (eqb-true a 1 g)))
    go false g k =
        let z = both (eqb a 0) (eqb f 0) k in
        rw g (ap₂ (λ (n m : ℕ). n ∷ b ∷ d ∷ e ∷ m ∷ []) (sym (eqb-true a 0 z.0)) (sym (eqb-true f 0 z.1)))

source_refilled : (m : ℕ) (fs : List ℕ) → length fs ≡ length source_party.widths → source_party.ok (m ∷ fs) ≡ true → source_party.to (source_party.from (m ∷ fs)) ≡ fs
source_refilled m fs l h =
    let k = both (is_course fs) (is_allowed (source_verdict (source_from (m ∷ fs)))) h in
    let n = length course_bits in
    ap₂ ◌++◌ (course_again fs (omega arith) k.0) (source_values_again (course_from fs) (drop n fs) (omega (arith, length-drop n fs)))
    ∙ take-append-drop n fs

source_reread : (s : Source) → length s.traffic ≡ 3 → source_party.from (1 ∷ source_party.to s) ≡ s
source_reread s h =
    (λ i. source_of (course_back s.course (values_by source_table s) i) (course_behind s.course (values_by source_table s) i)) ∙ source_again s h

source_okay : (s : Source) → SourceStands s → source_party.ok (1 ∷ source_party.to s) ≡ true
source_okay s h =
    let e : source_verdict (source_from (1 ∷ source_party.to s)) ≡ (Ok tt) = ap source_verdict (source_reread s h.1) ∙ h.0 in
    λ i. course_known s.course (values_by source_table s) i && is_allowed (e i)

pub source_fits : (s : Source) → source_verdict s ≡ Ok tt → Within (party_layout source_party) (1 ∷ (course_numbers s.course ++ values_by source_table s))
source_fits s e =
    let f = rest_allowed s e in
    (omega arith, two_within course_bits (slot_bits_by source_table) (course_numbers s.course) (values_by source_table s) (course_fits s.course f.0) (source_in_slot s f.1))

pub source_lawful : Lawful source_party SourceStands
source_lawful =
    record {
      handled = refl;
      refilled = source_refilled;
      reread = λ s h. source_reread s h.1;
      fits = λ s h. source_fits s h.0;
      okay = source_okay;
      stands = λ vs h. (allowed_is (source_verdict (source_from vs)) (both (is_course (drop 1 vs)) (is_allowed (source_verdict (source_from vs))) h).1, refl);
    }

-- ---- receivers

pub held_fits : (h : Held) → HeldStands h → Within (party_layout held_party) (1 ∷ held_fields h)
held_fits h k =
    let e = h.sums.day ∷ h.sums.evening ∷ h.sums.night ∷ [] in
    let l : Within (64 ∷ 64 ∷ 64 ∷ []) e = (grind (arith, rules, k.1), (grind (arith, rules, k.1), (grind (arith, rules, k.1), tt))) in
    (omega arith, two_within (slot_bits_by receiver_table) (64 ∷ 64 ∷ 64 ∷ []) (values_by receiver_table h.who) e (receiver_in_slot h.who k.0) l)

held_stands : (vs : List ℕ) → held_party.ok vs ≡ true → HeldStands (held_from vs)
held_stands vs e =
    let h = held_from vs in
    let t = both (is_allowed (receiver_verdict h.who)) (sound h.sums) e in
    (allowed_is (receiver_verdict h.who) t.0, t.1)

pub held_lawful : Lawful held_party HeldStands
held_lawful =
    record {
      handled = refl;
      refilled = λ m fs e o. all_of _ fs e;
      reread = λ h k. refl;
      fits = held_fits;
      okay = λ h k i. is_allowed (k.0 i) && k.1 i;
      stands = held_stands;
    }

-- ---- walls

pub wall_fits : (w : Wall) → WallStands w → Within (party_layout wall_party) (1 ∷ values_by wall_table w)
wall_fits w e = (omega arith, wall_in_slot w e)

pub wall_lawful : Lawful wall_party WallStands
wall_lawful =
    record {
      handled = refl;
      refilled = λ m fs e o. all_of _ fs e;
      reread = λ w e. refl;
      fits = wall_fits;
      okay = λ w e i. is_allowed (e i);
      stands = λ vs e. allowed_is (wall_verdict (wall_from vs)) e;
    }
