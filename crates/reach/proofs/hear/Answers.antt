-- `hear` puts the three periods together. Assumes nothing.
use Rattle.std.specs.Prelude.{Ok, Err}
use Rattle.std.proofs.lemmas.Result.{err_from_is_err_and}
use mathlib.Core.Path.{◌≡◌, ap, ◌∙◌}
use mathlib.Core.List.{List}
use Prim.Native.Nat.{ℕ, ◌≤◌}
use native.Mathlib.Omega.{arith}
use lib.ListN.{get_or}
use Rattle.root.specs.Root.{root_of}
use Rattle.root.proofs.Laws.{root_is}
use Rattle.road.specs.declared.Term.{Term}
use Rattle.road.specs.declared.Bar.{Bar}
use Rattle.road.specs.Results.{Voice, Part, Pair}
use Rattle.road.specs.Term.{◌⊕◌}
use Rattle.road.specs.Reach.{farthest, distance_term, obstacle_term, weather_term, weather_of}
use Rattle.road.specs.Inner.{silent, voiced_part, part_in, pair_by, hear_of}
use Rattle.road.proofs.Sums.{Small}
use Rattle.road.proofs.Pairs.{Reached, reached, small_way}
use Rattle.reach.proofs.hear.Goals as goal

-- ---- the two roots are those of the squares, and in range

abbrev Roots : ℕ → ℕ → ℕ × ℕ → Type 0
Roots q0 q l = l ≡ (root_of q0, root_of q)

near_is : (q0 q : ℕ) (l : ℕ × ℕ) → Roots q0 q l → l.0 ≡ root_of q0
near_is q0 q l e = ap (λ (l : ℕ × ℕ). l.0) e

far_is : (q0 q : ℕ) (l : ℕ × ℕ) → Roots q0 q l → l.1 ≡ root_of q
far_is q0 q l e = ap (λ (l : ℕ × ℕ). l.1) e

in_range : (q : ℕ) → 1 ≤ q → q ≤ farthest → Reached (root_of q)
in_range q a b = let h = root_is q in reached q (root_of q) a b (h.at_most, h.above)

near : (q0 q : ℕ) (l : ℕ × ℕ) → Roots q0 q l → 1 ≤ q0 → q0 ≤ q → q ≤ farthest → Reached l.0
near q0 q l e a b f = rw (near_is q0 q l e) (in_range q0 a (omega (arith, b, f)))

far : (q0 q : ℕ) (l : ℕ × ℕ) → Roots q0 q l → 1 ≤ q0 → q0 ≤ q → q ≤ farthest → Reached l.1
far q0 q l e a b f = rw (far_is q0 q l e) (in_range q (omega (arith, a, b)) f)

-- ---- distance and ground are small

abbrev Way : ℕ → ℕ → ℕ → ℕ → Term → Type 0
Way q r h d w = w ≡ distance_term q r ⊕ obstacle_term h r d

short : (q r h d : ℕ) (w : Term) → Way q r h d w → 1 ≤ q → q ≤ farthest → r ≤ 1000000 → d ≤ 6000 → Small 50000 w
short q r h d w e a b f g = rw e (small_way q r h d a b f g)

-- ---- the share by the way and the root that were found is the part of the period

heard : (vs : List Voice) (length w : Term) (l : ℕ × ℕ) (q0 q h d i : ℕ) (x : Part) → Roots q0 q l → Way q l.1 h d w
    → x ≡ voiced_part (get_or vs i silent) (length ⊕ w ⊕ weather_term (weather_of i) h l.0)
    → x ≡ part_in vs length q0 q h d i
heard vs length w l q0 q h d i x e f g =
    let n = near_is q0 q l e in
    let v : w ≡ distance_term q (root_of q) ⊕ obstacle_term h (root_of q) d =
    f ∙ ap (λ (r : ℕ). distance_term q r ⊕ obstacle_term h r d) (far_is q0 q l e) in
    g ∙ (λ j. voiced_part (get_or vs i silent) (length ⊕ v j ⊕ weather_term (weather_of i) h (n j)))

-- ---- the bar of the first period that is barred

day_barred : (why : Bar) (x y z : Part) → Err why ≡ x → Err why ≡ pair_by x y z
day_barred why x y z e = ap (λ (p : Part). pair_by p y z) e

evening_barred : (why : Bar) (day : ℕ) (x y z : Part) → Ok day ≡ x → Err why ≡ y → Err why ≡ pair_by x y z
evening_barred why day x y z e f = λ i. pair_by (e i) (f i) z

night_barred : (why : Bar) (day evening : ℕ) (x y z : Part) → Ok day ≡ x → Ok evening ≡ y → Err why ≡ z → Err why ≡ pair_by x y z
night_barred why day evening x y z e f g = λ i. pair_by (e i) (f i) (g i)

all_heard : (day evening night : ℕ) (x y z : Part) → Ok day ≡ x → Ok evening ≡ y → Ok night ≡ z
    → Ok (record { day = day; evening = evening; night = night }) ≡ pair_by x y z
all_heard day evening night x y z e f g = λ i. pair_by (e i) (f i) (g i)

-- ---- the goals

pub way-over-requires : goal.way-over-requires
way-over-requires c =
    let a = c.args in
    let p = c.requires.fits in
    let r = far a.q0 a.q c.roots-near.result c.roots-near.ensures p.1 p.2 p.3 in
    (omega (arith, p.1, p.2), p.3, p.4, r.some, r.most, c.requires.up_bound.2)

pub overflow_add-up : goal.overflow_add-up
overflow_add-up c =
    let a = c.args in
    let p = c.requires.fits in
    let r = far a.q0 a.q c.roots-near.result c.roots-near.ensures p.1 p.2 p.3 in
    let s = short a.q _ a.h a.screening c.way-over.result c.way-over.ensures (omega (arith, p.1, p.2)) p.3 r.most c.requires.up_bound.2 in
    omega (arith, c.requires.up_bound.0, s.up)

pub overflow_add-down : goal.overflow_add-down
overflow_add-down c =
    let a = c.args in
    let p = c.requires.fits in
    let r = far a.q0 a.q c.roots-near.result c.roots-near.ensures p.1 p.2 p.3 in
    let s = short a.q _ a.h a.screening c.way-over.result c.way-over.ensures (omega (arith, p.1, p.2)) p.3 r.most c.requires.up_bound.2 in
    omega (arith, c.requires.up_bound.1, s.down)

pub share-requires-clause-fits : goal.share-requires-clause-fits
share-requires-clause-fits c =
    let a = c.args in
    let p = c.requires.fits in
    let r = far a.q0 a.q c.roots-near.result c.roots-near.ensures p.1 p.2 p.3 in
    let s = short a.q _ a.h a.screening c.way-over.result c.way-over.ensures (omega (arith, p.1, p.2)) p.3 r.most c.requires.up_bound.2 in
    (p.0.day, omega (arith, c.requires.up_bound.0, s.up), omega (arith, c.requires.up_bound.1, s.down))

pub share-requires-clause-c_bound : goal.share-requires-clause-c_bound
share-requires-clause-c_bound c =
    let p = c.requires.fits in
    let r = near c.args.q0 c.args.q c.roots-near.result c.roots-near.ensures p.1 p.2 p.3 in
    (omega arith, p.4, r.some, r.most)

pub returns-in_err-day : goal.returns-in_err-day
unfolding hear_of
returns-in_err-day c =
    let a = c.args in
    let p = err_from_is_err_and c.from_residual.result c.from_residual.ensures.1 in
    let day = heard a.voices a.length c.way-over.result c.roots-near.result a.q0 a.q a.h a.screening 0 _ c.roots-near.ensures c.way-over.ensures c.in_err-day.ensures in
    p.1 ∙ ap {B = Pair} Err p.2 ∙ day_barred _ _ _ _ day

pub share-requires-2-clause-fits : goal.share-requires-2-clause-fits
share-requires-2-clause-fits c =
    let a = c.args in
    let p = c.requires.fits in
    let r = far a.q0 a.q c.roots-near.result c.roots-near.ensures p.1 p.2 p.3 in
    let s = short a.q _ a.h a.screening c.way-over.result c.way-over.ensures (omega (arith, p.1, p.2)) p.3 r.most c.requires.up_bound.2 in
    (p.0.evening, omega (arith, c.requires.up_bound.0, s.up), omega (arith, c.requires.up_bound.1, s.down))

pub share-requires-2-clause-c_bound : goal.share-requires-2-clause-c_bound
share-requires-2-clause-c_bound c =
    let p = c.requires.fits in
    let r = near c.args.q0 c.args.q c.roots-near.result c.roots-near.ensures p.1 p.2 p.3 in
    (omega arith, p.4, r.some, r.most)

pub returns-in_err-evening : goal.returns-in_err-evening
unfolding hear_of
returns-in_err-evening c =
    let a = c.args in
    let p = err_from_is_err_and c.from_residual-in_err-evening.result c.from_residual-in_err-evening.ensures.1 in
    let day = heard a.voices a.length c.way-over.result c.roots-near.result a.q0 a.q a.h a.screening 0 _ c.roots-near.ensures c.way-over.ensures c.in_ok-day.ensures in
    let evening = heard a.voices a.length c.way-over.result c.roots-near.result a.q0 a.q a.h a.screening 1 _ c.roots-near.ensures c.way-over.ensures c.in_err-evening.ensures in
    p.1 ∙ ap {B = Pair} Err p.2 ∙ evening_barred _ _ _ _ _ day evening

pub share-requires-3-clause-fits : goal.share-requires-3-clause-fits
share-requires-3-clause-fits c =
    let a = c.args in
    let p = c.requires.fits in
    let r = far a.q0 a.q c.roots-near.result c.roots-near.ensures p.1 p.2 p.3 in
    let s = short a.q _ a.h a.screening c.way-over.result c.way-over.ensures (omega (arith, p.1, p.2)) p.3 r.most c.requires.up_bound.2 in
    (p.0.night, omega (arith, c.requires.up_bound.0, s.up), omega (arith, c.requires.up_bound.1, s.down))

pub share-requires-3-clause-c_bound : goal.share-requires-3-clause-c_bound
share-requires-3-clause-c_bound c =
    let p = c.requires.fits in
    let r = near c.args.q0 c.args.q c.roots-near.result c.roots-near.ensures p.1 p.2 p.3 in
    (omega arith, p.4, r.some, r.most)

pub returns-in_err-night : goal.returns-in_err-night
unfolding hear_of
returns-in_err-night c =
    let a = c.args in
    let p = err_from_is_err_and c.from_residual-in_err-night.result c.from_residual-in_err-night.ensures.1 in
    let day = heard a.voices a.length c.way-over.result c.roots-near.result a.q0 a.q a.h a.screening 0 _ c.roots-near.ensures c.way-over.ensures c.in_ok-day.ensures in
    let evening = heard a.voices a.length c.way-over.result c.roots-near.result a.q0 a.q a.h a.screening 1 _ c.roots-near.ensures c.way-over.ensures c.in_ok-evening.ensures in
    let night = heard a.voices a.length c.way-over.result c.roots-near.result a.q0 a.q a.h a.screening 2 _ c.roots-near.ensures c.way-over.ensures c.in_err-night.ensures in
    p.1 ∙ ap {B = Pair} Err p.2 ∙ night_barred _ _ _ _ _ _ day evening night

pub returns : goal.returns
unfolding hear_of
returns c =
    let a = c.args in
    let day = heard a.voices a.length c.way-over.result c.roots-near.result a.q0 a.q a.h a.screening 0 _ c.roots-near.ensures c.way-over.ensures c.in_ok-day.ensures in
    let evening = heard a.voices a.length c.way-over.result c.roots-near.result a.q0 a.q a.h a.screening 1 _ c.roots-near.ensures c.way-over.ensures c.in_ok-evening.ensures in
    let night = heard a.voices a.length c.way-over.result c.roots-near.result a.q0 a.q a.h a.screening 2 _ c.roots-near.ensures c.way-over.ensures c.in_ok-night.ensures in
    all_heard _ _ _ _ _ _ day evening night
