-- What a search among the fields says of the verdict, what an allowed slot is, and that a verdict is refused 5, 6 or 7 and no other, at a low place.
-- Assumes nothing.
use Rattle.std.specs.Prelude.{Ok, Err}
use Prim.Native.Nat.{ℕ, zero, suc, ◌≤◌, ◌<◌}
use mathlib.Core.Path.{◌≡◌, refl, sym, ap, ◌∙◌, subst}
use mathlib.Core.Logic.{◌≢◌}
use mathlib.Core.Bool.{Bool, true, false, cond, ◌&&◌}
use mathlib.Core.List.{List, [], ◌∷◌, ◌++◌}
use native.Mathlib.Nat.{not-suc-le-zero, le_of_suc-le-suc}
use native.Mathlib.Omega.{arith}
use borrow.Author.Tests.{lt-ltb, le-ltb, ltb-true, leb-true}
use lib.Dec.{ltb, leb}
use lib.ListN.{length, length-append}
use Rattle.layout.specs.Bounds.{allowed, onwards}
use Rattle.layout.proofs.Bounds.{both}
use Rattle.answer.specs.declared.Refusal.{Refusal}
use Rattle.answer.specs.declared.Refusal.TheVariants.{Damaged, Field, SlowSurface, QuietTruck}
use Rattle.answer.specs.Table.{number_of, place_of}
use Rattle.course.specs.declared.Course.{Course}
use Rattle.course.specs.declared.Course.TheVariants as course
use Rattle.screen.specs.declared.Wall.{Wall}
use Rattle.road.specs.declared.Source.{Source}
use Rattle.road.specs.declared.Receiver.{Receiver}
use Rattle.road.specs.Results.{Verdict}
use Rattle.road.specs.Fields.{Row, number_at, piece_table, ends_table, length_table, road_table, traffic_table, source_table, receiver_table, wall_table}
use Rattle.road.specs.Judge.{outside_by, unless_outside, slow_surface, quiet_truck, course_verdict, rest_verdict, source_verdict, receiver_verdict, wall_verdict, slot_verdict}

-- ---- the first field outside its limits is refused, and none leaves the rest to be judged

module _ {A : Type 0} (t : List (Row A)) (a : A) (v : Verdict) (at : ℕ) (e : at ≡ outside_by t a) where
  pub outside : at < length t → Err (Field (number_at t at)) ≡ unless_outside t a v
  outside h =
      let k : outside_by t a < length t = omega arith in
      rw (lt-ltb (outside_by t a) (length t) k) (ap (λ (x : ℕ). Err (Field (number_at t x))) e)

  pub inside : length t ≤ at → v ≡ unless_outside t a v
  inside h =
      let k : length t ≤ outside_by t a = omega arith in
      rw (le-ltb (outside_by t a) (length t) k) refl

-- ---- one verdict after the other: what is judged first, alone, and then the rest

abbrev pub after : Verdict → Verdict → Verdict
after (Ok tt) v = v
after (Err why) v = Err why

after_cond : (b : Bool) (why : Refusal) (v : Verdict) → cond b (Err why) v ≡ after (cond b (Err why) (Ok tt)) v
after_cond true why v = refl
after_cond false why v = refl

pub fields_after : {A : Type 0} (t : List (Row A)) (a : A) (v : Verdict) → unless_outside t a v ≡ after (unless_outside t a (Ok tt)) v
fields_after t a v = after_cond (ltb (outside_by t a) (length t)) (Field (number_at t (outside_by t a))) v

-- of three the first two may be taken together
pub after_both : (a b v : Verdict) → after a (after b v) ≡ after (after a b) v
after_both (Ok tt) b v = refl
after_both (Err why) b v = refl

pub course_after : (c : Course) (v : Verdict) → course_verdict c v ≡ after (course_verdict c (Ok tt)) v
course_after (course.Uncut p) v = fields_after piece_table p v
course_after (course.Between e) v =
    let l = unless_outside length_table e (Ok tt) in
    fields_after ends_table e (unless_outside length_table e v)
    ∙ ap (after (unless_outside ends_table e (Ok tt))) (fields_after length_table e v)
    ∙ after_both (unless_outside ends_table e (Ok tt)) l v
    ∙ ap (λ (x : Verdict). after x v) (sym (fields_after ends_table e l))

pub slot_after : (most slot : ℕ) (v : Verdict) → slot_verdict most slot v ≡ after (slot_verdict most slot (Ok tt)) v
slot_after most slot v = go (leb slot most)
  where
    go : (b : Bool) → cond b v (Err (Field 1)) ≡ after (cond b (Ok tt) (Err (Field 1))) v
    go true = refl
    go false = refl

-- what a verdict by `first` and `after` tells once the first is known
pub first_allows : (a v w : Verdict) → w ≡ after a v → a ≡ Ok tt → w ≡ v
first_allows a v w e h = e ∙ ap (λ (x : Verdict). after x v) h

pub first_refuses : (a v w : Verdict) (why : Refusal) → w ≡ after a v → a ≡ Err why → w ≡ Err why
first_refuses a v w why e h = e ∙ ap (λ (x : Verdict). after x v) h

-- the rows of the road are the first of a source's: they have the same numbers, and a field of the road that is outside is refused
-- before any other of the source
number_front : {A : Type 0} (t u : List (Row A)) (i : ℕ) → i < length t → number_at (t ++ u) i ≡ number_at t i
number_front [] u i h = absurd (not-suc-le-zero h)
number_front (r ∷ t) u zero h = refl
number_front (r ∷ t) u (suc i) h = number_front t u i (le_of_suc-le-suc h)

onwards_front : (b : Bool) (m n l : ℕ) → (n < l → m ≡ n) → onwards b n < suc l → onwards b m ≡ onwards b n
onwards_front true m n l e h = ap suc (e (le_of_suc-le-suc h))
onwards_front false m n l e h = refl

front_outside : {A : Type 0} (t u : List (Row A)) (a : A) → outside_by t a < length t → outside_by (t ++ u) a ≡ outside_by t a
front_outside [] u a h = absurd (not-suc-le-zero h)
front_outside (r ∷ t) u a h =
    onwards_front (allowed (r.least a) (r.most a) (r.value a)) (outside_by (t ++ u) a) (outside_by t a) (length t) (front_outside t u a) h

front_first : {A : Type 0} (t u : List (Row A)) (a : A) (v : Verdict)
    → unless_outside t a (unless_outside (t ++ u) a v) ≡ unless_outside (t ++ u) a v
front_first t u a v = go (ltb (outside_by t a) (length t)) refl
  where
    go : (b : Bool) → ltb (outside_by t a) (length t) ≡ b
        → cond b (Err (Field (number_at t (outside_by t a)))) (unless_outside (t ++ u) a v) ≡ unless_outside (t ++ u) a v
    go true e =
        let h : outside_by t a < length t = ltb-true (outside_by t a) (length t) e in
        ap (λ (n : ℕ). Err (Field n)) (sym (number_front t u (outside_by t a) h))
        ∙ outside (t ++ u) a v (outside_by t a) (sym (front_outside t u a h)) (omega (arith, length-append t u))
    go false e = refl

pub road_first : (s : Source) → unless_outside road_table s (rest_verdict s) ≡ rest_verdict s
unfolding rest_verdict
road_first s = front_first road_table traffic_table s _

pub number_road : (i : ℕ) → i < length road_table → number_at source_table i ≡ number_at road_table i
number_road i h = number_front road_table traffic_table i h

-- ---- a slot that is allowed

pub slot_allowed : (most slot : ℕ) (v : Verdict) → slot_verdict most slot v ≡ Ok tt → (slot ≤ most) × (v ≡ Ok tt)
slot_allowed most slot v e = go (leb slot most) refl e
  where
    go : (b : Bool) → leb slot most ≡ b → cond b v (Err (Field 1)) ≡ Ok tt → (slot ≤ most) × (v ≡ Ok tt)
    go true h f = (leb-true slot most h, f)
    go false h f = let z : ◌≡◌ {A = ℕ} 0 1 = cc in absurd (omega arith)

-- ---- the numbers of a verdict, and its places: a field's number is low

abbrev pub ByFields : Verdict → Type 0
ByFields (Ok tt) = Unit {0}
ByFields (Err why) = (5 ≤ number_of why) × (number_of why ≤ 7) × (place_of why < 32)

either_by : (t : Bool) (v w : Verdict) → ByFields v → ByFields w → ByFields (cond t v w)
either_by true v w m n = m
either_by false v w m n = n

-- no row of a table has a higher number
abbrev pub low_numbers : {A : Type 0} → List (Row A) → Bool
low_numbers [] = true
low_numbers (r ∷ t) = ltb r.number 32 && low_numbers t

low_at : {A : Type 0} (t : List (Row A)) → low_numbers t ≡ true → (i : ℕ) → number_at t i < 32
low_at [] e i = omega arith
low_at (r ∷ t) e zero = ltb-true r.number 32 (both (ltb r.number 32) (low_numbers t) e).0
low_at (r ∷ t) e (suc i) = low_at t (both (ltb r.number 32) (low_numbers t) e).1 i

pub outside_by_lem : {A : Type 0} (t : List (Row A)) → low_numbers t ≡ true → (a : A) (v : Verdict) → ByFields v → ByFields (unless_outside t a v)
outside_by_lem t e a v n =
    either_by (ltb (outside_by t a) (length t)) (Err (Field (number_at t (outside_by t a)))) v (omega arith, omega arith, low_at t e (outside_by t a)) n

pub course_by : (c : Course) (v : Verdict) → ByFields v → ByFields (course_verdict c v)
course_by (course.Uncut p) v n = outside_by_lem piece_table refl p v n
course_by (course.Between e) v n = outside_by_lem ends_table refl e (unless_outside length_table e v) (outside_by_lem length_table refl e v n)

pub rest_by : (s : Source) → ByFields (rest_verdict s)
unfolding rest_verdict
rest_by s =
    outside_by_lem source_table refl s _
    (either_by (slow_surface s) (Err SlowSurface) _ (omega arith, omega arith, omega arith)
    (either_by (quiet_truck s) (Err QuietTruck) (Ok tt) (omega arith, omega arith, omega arith) tt))

pub source_by : (s : Source) → ByFields (source_verdict s)
unfolding source_verdict
source_by s = course_by s.course (rest_verdict s) (rest_by s)

pub receiver_by : (r : Receiver) → ByFields (receiver_verdict r)
unfolding receiver_verdict
receiver_by r = outside_by_lem receiver_table refl r (Ok tt) tt

pub wall_by : (w : Wall) → ByFields (wall_verdict w)
unfolding wall_verdict
wall_by w = outside_by_lem wall_table refl w (Ok tt) tt

pub slot_by_lem : (most i : ℕ) (v : Verdict) → ByFields v → ByFields (slot_verdict most i v)
slot_by_lem most i v n = either_by (leb i most) v (Err (Field 1)) n (omega arith, omega arith, omega arith)

-- so none is for damage
pub by_apart : (v : Verdict) → ByFields v → v ≢ Err Damaged
by_apart v n e = omega (arith, (subst ByFields e n).0)
