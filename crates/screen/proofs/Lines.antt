-- Laws of the plan: f lies strictly between 0 and 1 and on the wall's line, walls along the plan line or through its ends do not count,
-- and the numbers of f are small enough to be multiplied by a length. Assumes nothing.
use mathlib.Core.Path.{◌≡◌, sym, ap, ap₂, ◌∙◌}
use mathlib.Core.Bool.{true, false, not, ◌&&◌}
use mathlib.Core.Logic.{◌⊎◌, inl, inr, ⊎_elim}
use Prim.Native.Nat.{ℕ, ◌+◌, ◌-◌, ◌*◌, ◌/◌, ◌≤◌, ◌<◌}
use native.Mathlib.Nat.{mul-add, add-mul, mul_comm, mul_assoc, mul_left_comm, mul-le-mul_right, mul-div_cancel_left}
use native.Mathlib.Decide.{dec_le}
use native.Mathlib.Omega.{arith}
use lib.Dec.{ltb}
use Rattle.std.proofs.lemmas.Bool.{ltb-true, and_parts, or_cases}
use Rattle.screen.specs.declared.Point.{Point}
use Rattle.screen.specs.declared.Wall.{Wall}
use Rattle.screen.specs.declared.plan.Sides.{Sides}
use Rattle.course.specs.Course.{apart, plan_between}
use Rattle.screen.specs.Plan.{OnPlan, WallOnPlan, start, end, around, turn, area, opposite, beside, counts, fraction_of, On, At, Promises}
use Rattle.screen.proofs.Bounds.{times, under_root}

-- ---- sizes

pub around_most : (a b c : Point) → OnPlan a → OnPlan b → OnPlan c → around a b c ≤ 844424930131968
unfolding around
around_most a b c h k l =
    omega (
      arith,
      times a.x b.y 16777216 16777216 (omega (arith, h.x)) (omega (arith, k.y)),
      times b.x c.y 16777216 16777216 (omega (arith, k.x)) (omega (arith, l.y)),
      times c.x a.y 16777216 16777216 (omega (arith, l.x)) (omega (arith, h.y)),
    )

pub area_most : (a b c : Point) → OnPlan a → OnPlan b → OnPlan c → area (turn a b c) ≤ 844424930131968
area_most a b c h k l = omega (arith, around_most a b c h k l, around_most b a c k h l)

-- ---- what a test for opposite sides says

pub parted : (t u : Sides) → opposite t u ≡ true → ((t.left < t.right) × (u.right < u.left)) ⊎ ((t.right < t.left) × (u.left < u.right))
parted t u h =
    ⊎_elim
    (λ e. let p = and_parts (ltb t.left t.right) (ltb u.right u.left) e in inl (ltb-true _ _ p.0, ltb-true _ _ p.1))
    (λ e. let p = and_parts (ltb t.right t.left) (ltb u.left u.right) e in inr (ltb-true _ _ p.0, ltb-true _ _ p.1))
    (or_cases (ltb t.left t.right && ltb u.right u.left) (ltb t.right t.left && ltb u.left u.right) h)

pub counts_parted : (p r : Point) (w : Wall) → counts p r w ≡ true → opposite (turn (start w) (end w) p) (turn (start w) (end w) r) ≡ true
unfolding counts
counts_parted p r w h = (and_parts (opposite (turn (start w) (end w) p) (turn (start w) (end w) r)) (not (beside (turn p r (start w)) (turn p r (end w)))) h).0

-- whether a wall counts, by the first test
pub counts_not : (p r : Point) (w : Wall) → opposite (turn (start w) (end w) p) (turn (start w) (end w) r) ≡ false → counts p r w ≡ false
unfolding counts
counts_not p r w h = rw h

pub counts_by_lem : (p r : Point) (w : Wall) → opposite (turn (start w) (end w) p) (turn (start w) (end w) r) ≡ true
    → counts p r w ≡ not (beside (turn p r (start w)) (turn p r (end w)))
unfolding counts
counts_by_lem p r w h = rw h

-- ---- f lies strictly between 0 and 1

pub record Proper (p r : Point) (w : Wall) : Type 0 where
  pub some : 0 < (fraction_of p r w).num
  pub below : (fraction_of p r w).num < (fraction_of p r w).den

pub fraction_proper : (p r : Point) (w : Wall) → counts p r w ≡ true → Proper p r w
unfolding fraction_of
fraction_proper p r w h =
    ⊎_elim
    (λ e. record { some = omega (arith, e.0); below = omega (arith, e.1) })
    (λ e. record { some = omega (arith, e.0); below = omega (arith, e.1) })
    (parted (turn (start w) (end w) p) (turn (start w) (end w) r) (counts_parted p r w h))

-- ---- a wall along the plan line, or through one of its ends, does not count

-- the four turns of four points: each product of an x and a y stands once on either side
pub four_turns : (a b p r : Point)
    → around a b p + around p r a + around b a r + around r p b ≡ around a b r + around p r b + around b a p + around r p a
unfolding around
four_turns a b p r = omega arith

one_point_lem : (p r : Point) (w : Wall) → On p r (start w) → On p r (end w) → counts p r w ≡ true → ⊥
one_point_lem p r w a b h =
    let l = start w in
    let k = end w in
    ⊎_elim
    (λ o. omega (arith, o.0, o.1, four_turns l k p r))
    (λ o. omega (arith, o.0, o.1, four_turns l k p r))
    (parted (turn l k p) (turn l k r) (counts_parted p r w h))

not_through_middle : (p r : Point) (w : Wall) → On (start w) (end w) p → counts p r w ≡ true → ⊥
not_through_middle p r w e h =
    ⊎_elim (λ o. omega (arith, o.0)) (λ o. omega (arith, o.0)) (parted (turn (start w) (end w) p) (turn (start w) (end w) r) (counts_parted p r w h))

not_through_point : (p r : Point) (w : Wall) → On (start w) (end w) r → counts p r w ≡ true → ⊥
not_through_point p r w e h =
    ⊎_elim (λ o. omega (arith, o.1)) (λ o. omega (arith, o.1)) (parted (turn (start w) (end w) p) (turn (start w) (end w) r) (counts_parted p r w h))

-- ---- the bound: the two triangles together are no more than the plan line's two extents, each by the largest coordinate

-- k a + m b and k b + m a differ by at most one of k and m for each step from a to b
pull : (k m a b t : ℕ) → k ≤ t → m ≤ t → k * a + m * b ≤ k * b + m * a + t * apart a b
pull k m a b t h l = go (dec_le a b)
  where
    go : Dec (a ≤ b) → k * a + m * b ≤ k * b + m * a + t * apart a b
    go (yes e) =
        let f : b ≡ a + (b - a) = omega arith in
        let g : apart a b ≡ b - a = omega arith in
        let mb : m * b ≡ m * a + m * (b - a) = ap (λ (n : ℕ). m * n) f ∙ mul-add m a (b - a) in
        let kb : k * b ≡ k * a + k * (b - a) = ap (λ (n : ℕ). k * n) f ∙ mul-add k a (b - a) in
        let tg : t * apart a b ≡ t * (b - a) = ap (λ (n : ℕ). t * n) g in
        omega (arith, mul-le-mul_right (b - a) l)
    go (no e) =
        let f : a ≡ b + (a - b) = omega arith in
        let g : apart a b ≡ a - b = omega arith in
        let ma : m * a ≡ m * b + m * (a - b) = ap (λ (n : ℕ). m * n) f ∙ mul-add m b (a - b) in
        let ka : k * a ≡ k * b + k * (a - b) = ap (λ (n : ℕ). k * n) f ∙ mul-add k b (a - b) in
        let tg : t * apart a b ≡ t * (a - b) = ap (λ (n : ℕ). t * n) g in
        omega (arith, mul-le-mul_right (a - b) h)

-- what the turn at p has more on its left than on its right, and the turn at r on its right than on its left
between_most : (a b p r : Point) → OnPlan a → OnPlan b
    → around a b p + around b a r ≤ around b a p + around a b r + 16777216 * (apart p.x r.x + apart p.y r.y)
unfolding around
between_most a b p r h k =
    omega (
      arith,
      pull b.x a.x p.y r.y 16777216 (omega (arith, k.x)) (omega (arith, h.x)),
      pull a.y b.y p.x r.x 16777216 (omega (arith, h.y)) (omega (arith, k.y)),
      mul_comm p.x a.y,
      mul_comm p.x b.y,
      mul_comm r.x a.y,
      mul_comm r.x b.y,
    )

line_most : (p r : Point) → plan_between p.x p.y r.x r.y ≤ 40000000000 → apart p.x r.x + apart p.y r.y ≤ 400000
line_most p r h =
    omega (arith, under_root (apart p.x r.x) 200000 (omega arith), under_root (apart p.y r.y) 200000 (omega arith))

-- two differences that together are at most n times 2^24
within : (a b c d n : ℕ) → a < b → d < c → b + c ≤ a + d + 16777216 * n → n ≤ 400000 → apart a b + apart c d ≤ 6710886400000
within a b c d n h l m s = omega arith

within' : (a b c d n : ℕ) → b < a → c < d → a + d ≤ b + c + 16777216 * n → n ≤ 400000 → apart a b + apart c d ≤ 6710886400000
within' a b c d n h l m s = omega arith

-- the fraction's two numbers are small enough to be multiplied by 2000000
pub fraction_most : (p r : Point) (w : Wall) → WallOnPlan w → counts p r w ≡ true → plan_between p.x p.y r.x r.y ≤ 40000000000 → (fraction_of p r w).den ≤ 6710886400000
unfolding fraction_of
fraction_most p r w h e q =
    let l = start w in
    let k = end w in
    ⊎_elim
    (λ o. within (around l k p) (around k l p) (around l k r) (around k l r) _ o.0 o.1 (between_most k l p r h.to h.from) (line_most p r q))
    (λ o. within' (around l k p) (around k l p) (around l k r) (around k l r) _ o.0 o.1 (between_most l k p r h.from h.to) (line_most p r q))
    (parted (turn l k p) (turn l k r) (counts_parted p r w e))

-- ---- the crossing lies on the wall's line

thrice : (k a b c : ℕ) → k * (a + b + c) ≡ k * a + k * b + k * c
thrice k a b c = omega (arith, mul-add k (a + b) c, mul-add k a b)

-- once round, to a point at (m, n) parts between p and r: so many parts of each
weighted : (a b p r x : Point) (m n : ℕ)
    → (m + n) * x.x ≡ m * p.x + n * r.x → (m + n) * x.y ≡ m * p.y + n * r.y
    → (m + n) * around a b x ≡ m * around a b p + n * around a b r
unfolding around
weighted a b p r x m n ex ey =
    let k : (m + n) * (a.x * b.y + b.x * x.y + x.x * a.y) ≡ (m + n) * (a.x * b.y) + (m + n) * (b.x * x.y) + (m + n) * (x.x * a.y) = thrice (m + n) _ _ _ in
    let u : (m + n) * (b.x * x.y) ≡ m * (b.x * p.y) + n * (b.x * r.y) =
    mul_left_comm (m + n) b.x x.y ∙ ap (λ (t : ℕ). b.x * t) ey ∙ mul-add b.x (m * p.y) (n * r.y)
    ∙ ap₂ ◌+◌ (mul_left_comm b.x m p.y) (mul_left_comm b.x n r.y) in
    let v : (m + n) * (x.x * a.y) ≡ m * (p.x * a.y) + n * (r.x * a.y) =
    sym (mul_assoc (m + n) x.x a.y) ∙ ap (λ (t : ℕ). t * a.y) ex ∙ add-mul (m * p.x) (n * r.x) a.y
    ∙ ap₂ ◌+◌ (mul_assoc m p.x a.y) (mul_assoc n r.x a.y) in
    let w : (m + n) * (a.x * b.y) ≡ m * (a.x * b.y) + n * (a.x * b.y) = add-mul m n (a.x * b.y) in
    omega (arith, thrice m (a.x * b.y) (b.x * p.y) (p.x * a.y), thrice n (a.x * b.y) (b.x * r.y) (r.x * a.y))

-- opposite differences weigh each other out
weighed_out : (a b c d : ℕ) → a < b → d < c → apart c d * a + apart a b * c ≡ apart c d * b + apart a b * d
weighed_out a b c d h l =
    let e : apart c d ≡ c - d = omega arith in
    let f : apart a b ≡ b - a = omega arith in
    let g : b ≡ a + (b - a) = omega arith in
    let k : c ≡ d + (c - d) = omega arith in
    let s : (c - d) * b ≡ (c - d) * a + (c - d) * (b - a) = ap (λ (t : ℕ). (c - d) * t) g ∙ mul-add (c - d) a (b - a) in
    let t : (b - a) * c ≡ (b - a) * d + (b - a) * (c - d) = ap (λ (t : ℕ). (b - a) * t) k ∙ mul-add (b - a) d (c - d) in
    rw (e, f) (omega (arith, mul_comm (c - d) (b - a)))

turned : (a b : ℕ) → apart a b ≡ apart b a
turned a b = omega arith

weighed_out' : (a b c d : ℕ) → b < a → c < d → apart c d * a + apart a b * c ≡ apart c d * b + apart a b * d
weighed_out' a b c d h l = rw (turned c d, turned a b) (sym (weighed_out b a d c h l))

on_line : (a b p r x : Point) (m n : ℕ) → 0 < n → m * around a b p + n * around a b r ≡ m * around b a p + n * around b a r
    → (n + m) * x.x ≡ (n + m - n) * p.x + n * r.x → (n + m) * x.y ≡ (n + m - n) * p.y + n * r.y → around a b x ≡ around b a x
on_line a b p r x m n h e ex ey =
    let d : n + m ≡ m + n = omega arith in
    let f : n + m - n ≡ m = omega arith in
    let gx : (m + n) * x.x ≡ m * p.x + n * r.x = ap (λ (t : ℕ). t * x.x) (sym d) ∙ ex ∙ ap (λ (t : ℕ). t * p.x + n * r.x) f in
    let gy : (m + n) * x.y ≡ m * p.y + n * r.y = ap (λ (t : ℕ). t * x.y) (sym d) ∙ ey ∙ ap (λ (t : ℕ). t * p.y + n * r.y) f in
    let s : (m + n) * around a b x ≡ (m + n) * around b a x = weighted a b p r x m n gx gy ∙ e ∙ sym (weighted b a p r x m n gx gy) in
    let k : 0 < m + n = omega arith in
    sym (mul-div_cancel_left (around a b x) k) ∙ ap (λ (t : ℕ). t / (m + n)) s ∙ mul-div_cancel_left (around b a x) k

-- what is at f of the way from p to r is on the wall's line
pub crossing_on_wall : (p r : Point) (w : Wall) → counts p r w ≡ true → (x : Point) → At p r x (fraction_of p r w) → On (start w) (end w) x
unfolding fraction_of
crossing_on_wall p r w h x e =
    let l = start w in
    let k = end w in
    on_line l k p r x (area (turn l k r)) (area (turn l k p)) (fraction_proper p r w h).some
    (⊎_elim
    (λ o. weighed_out (around l k p) (around k l p) (around l k r) (around k l r) o.0 o.1)
    (λ o. weighed_out' (around l k p) (around k l p) (around l k r) (around k l r) o.0 o.1)
    (parted (turn l k p) (turn l k r) (counts_parted p r w h)))
    e.x e.y

-- ---- what is promised

pub of_plans : (p r : Point) (w : Wall) → Promises p r w
of_plans p r w = record {
  after_middle = λ e. (fraction_proper p r w e).some;
  before_point = λ e. (fraction_proper p r w e).below;
  on_wall = crossing_on_wall p r w;
  not_along = one_point_lem p r w;
  not_at_middle = not_through_middle p r w;
  not_at_point = not_through_point p r w;
}
