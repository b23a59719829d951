-- A wall with both ends on one side of the box of p and r does not count. Where a wall counts, the two lines cross at a mean of the wall's
-- ends that is a mean of p and r, with the same weight in all; and two means of numbers that lie apart are not one. Assumes nothing.
use mathlib.Core.Path.{◌≡◌, sym, ap, ◌∙◌}
use mathlib.Core.Bool.{true, false}
use mathlib.Core.Logic.{⊎_elim}
use Prim.Native.Nat.{ℕ, suc, ◌+◌, ◌-◌, ◌*◌, ◌≤◌, ◌<◌, min, max}
use native.Mathlib.Nat.{add-mul}
use native.Mathlib.Decide.{dec_le}
use native.Mathlib.Omega.{arith}
use lib.Dec.{ltb}
use Rattle.std.proofs.lemmas.Bool.{ltb-true, lt-ltb, le-ltb, or_cases, not-true, both_ways, false_from_ne_true}
use Rattle.screen.specs.declared.Point.{Point}
use Rattle.screen.specs.declared.Wall.{Wall}
use Rattle.screen.specs.declared.plan.Sides.{Sides}
use Rattle.screen.specs.Plan.{start, end, around, turn, beside, clear, aside, counts}
use Rattle.screen.proofs.Bounds.{times}
use Rattle.screen.proofs.Lines.{parted, counts_parted, counts_by_lem, four_turns}

-- ---- two means of one weight are not one below the other

-- s a + t b is at most (s + t) m, and v p + u r is at least (v + u) (m + 1)
below : (s t v u a b p r m : ℕ) → 0 < v + u → s + t ≡ v + u → s * a + t * b ≡ v * p + u * r → a ≤ m → b ≤ m → m < p → m < r → ⊥
below s t v u a b p r m h e q ka kb kp kr =
    let k : (s + t) * m ≡ (v + u) * m = ap (λ (n : ℕ). n * m) e in
    omega (arith, times s a s m (omega arith) ka, times t b t m (omega arith) kb, times v (suc m) v p (omega arith) kp, times u (suc m) u r (omega arith) kr)

not_clear : (s t v u a b p r : ℕ) → 0 < v + u → s + t ≡ v + u → s * a + t * b ≡ v * p + u * r → clear a b p r ≡ true → ⊥
not_clear s t v u a b p r h e q c =
    ⊎_elim
    (λ l. let d = ltb-true (max a b) (min p r) l in below s t v u a b p r (max a b) h e q (omega arith) (omega arith) (omega arith) (omega arith))
    (λ l. let d = ltb-true (max p r) (min a b) l in below v u s t p r a b (max p r) (omega arith) (sym e) (sym q) (omega arith) (omega arith) (omega arith) (omega arith))
    (or_cases (ltb (max a b) (min p r)) (ltb (max p r) (min a b)) c)

-- ---- the crossing: s parts of a and t of b are v parts of p and u of r

record Crossing (a b p r : Point) : Type 0 where
  s : ℕ
  t : ℕ
  v : ℕ
  u : ℕ
  some : 0 < v + u
  even : s + t ≡ v + u
  x : s * a.x + t * b.x ≡ v * p.x + u * r.x
  y : s * a.y + t * b.y ≡ v * p.y + u * r.y

-- as `four_turns`, each turn by a coordinate of the point that it leaves out: each product of three stands once on either side
four_x : (a b p r : Point)
    → around r p b * a.x + around p r a * b.x + around b a r * p.x + around a b p * r.x
    ≡ around p r b * a.x + around r p a * b.x + around a b r * p.x + around b a p * r.x
unfolding around
four_x a b p r = omega arith

four_y : (a b p r : Point)
    → around r p b * a.y + around p r a * b.y + around b a r * p.y + around a b p * r.y
    ≡ around p r b * a.y + around r p a * b.y + around a b r * p.y + around b a p * r.y
unfolding around
four_y a b p r = omega arith

rest : (m n a : ℕ) → n ≤ m → m * a ≡ n * a + (m - n) * a
rest m n a h = let e : m ≡ n + (m - n) = omega arith in ap (λ (k : ℕ). k * a) e ∙ add-mul n (m - n) a

-- what each number has more on one side than on the other
moved : (k l m n k' l' m' n' a b p r : ℕ) → k' ≤ k → l' ≤ l → m ≤ m' → n ≤ n'
    → k * a + l * b + m * p + n * r ≡ k' * a + l' * b + m' * p + n' * r → (k - k') * a + (l - l') * b ≡ (m' - m) * p + (n' - n) * r
moved k l m n k' l' m' n' a b p r hk hl hm hn e = omega (arith, rest k k' a hk, rest l l' b hl, rest m' m p hm, rest n' n r hn)

-- p to the right of the wall and r to its left, a not to the right of the plan line and b not to its left
crossing : (a b p r : Point)
    → around a b p < around b a p → around b a r < around a b r → around r p a ≤ around p r a → around p r b ≤ around r p b → Crossing a b p r
crossing a b p r hp hr ha hb =
    let f = four_turns a b p r in
    record {
      s = around r p b - around p r b;
      t = around p r a - around r p a;
      v = around a b r - around b a r;
      u = around b a p - around a b p;
      some = omega arith;
      even = omega arith;
      x = moved _ _ _ _ _ _ _ _ a.x b.x p.x r.x hb ha (omega arith) (omega arith) (four_x a b p r);
      y = moved _ _ _ _ _ _ _ _ a.y b.y p.y r.y hb ha (omega arith) (omega arith) (four_y a b p r);
    }

exchanged : (a b p r : Point) → Crossing b a p r → Crossing a b p r
exchanged a b p r c = record {
  s = c.t;
  t = c.s;
  v = c.v;
  u = c.u;
  some = c.some;
  even = omega (arith, c.even);
  x = omega (arith, c.x);
  y = omega (arith, c.y);
}

-- ---- where a wall counts there is one

-- neither both to the right nor both to the left
record Mixed (t u : Sides) : Type 0 where
  right : t.left < t.right → u.left < u.right → ⊥
  left : t.right < t.left → u.right < u.left → ⊥

mixed : (t u : Sides) → beside t u ≡ false → Mixed t u
mixed t u h = record {
  right = λ k l.
      both_ways (beside t u) h (rw (lt-ltb t.left t.right k, lt-ltb u.left u.right l));
  left = λ k l.
      both_ways (beside t u) h (rw (le-ltb t.left t.right (omega arith), lt-ltb t.right t.left k, lt-ltb u.right u.left l));
}

-- the first then not to the right and the second not to the left, if the first lies more to the left
spread : (l r l' r' : ℕ) → r + l' < l + r' → (l < r → l' < r' → ⊥) → (r < l → r' < l' → ⊥) → (r ≤ l) × (l' ≤ r')
spread l r l' r' d f g = (first (dec_le r l), second (dec_le l' r'))
  where
    first : Dec (r ≤ l) → r ≤ l
    first (yes h) = h
    first (no h) = absurd (f (omega arith) (omega arith))

    second : Dec (l' ≤ r') → l' ≤ r'
    second (yes h) = h
    second (no h) = absurd (g (omega arith) (omega arith))

crosses : (p r : Point) (w : Wall) → counts p r w ≡ true → Crossing (start w) (end w) p r
crosses p r w h =
    let a = start w in
    let b = end w in
    let o = counts_parted p r w h in
    let m = mixed (turn p r a) (turn p r b) (not-true _ (sym (counts_by_lem p r w o) ∙ h)) in
    ⊎_elim
    (λ s.
    let d = spread (around p r a) (around r p a) (around p r b) (around r p b) (omega (arith, s.0, s.1, four_turns a b p r)) m.right m.left in
    crossing a b p r s.0 s.1 d.0 d.1)
    (λ s.
    let d = spread (around p r b) (around r p b) (around p r a) (around r p a) (omega (arith, s.0, s.1, four_turns a b p r)) (λ k l. m.right l k) (λ k l. m.left l k) in
    exchanged a b p r (crossing b a p r s.0 s.1 d.0 d.1))
    (parted (turn a b p) (turn a b r) o)

-- ---- a wall that lies aside does not count

not_both : (p r : Point) (w : Wall) → aside p r w ≡ true → counts p r w ≡ true → ⊥
not_both p r w h e =
    let c = crosses p r w e in
    ⊎_elim
    (not_clear c.s c.t c.v c.u w.ends.x1 w.ends.x2 p.x r.x c.some c.even c.x)
    (not_clear c.s c.t c.v c.u w.ends.y1 w.ends.y2 p.y r.y c.some c.even c.y)
    (or_cases (clear w.ends.x1 w.ends.x2 p.x r.x) (clear w.ends.y1 w.ends.y2 p.y r.y) h)

pub aside_not : (p r : Point) (w : Wall) → aside p r w ≡ true → counts p r w ≡ false
aside_not p r w h = false_from_ne_true (counts p r w) (not_both p r w h)
