-- The plan (METHOD 7): the middle p of a piece, the point r, and a wall from a to b; all in cm.
--
--            p                A triangle stands on the wall at p, and another at r. Their areas are as the distances of p and r from the
--           /|\               wall's line, and so as the two parts of the plan line from p to r:
--      a --+-+-+-- b              f = area (a b p) / (area (a b p) + area (a b r))
--           \|/               The wall counts if p and r lie on opposite sides of its line, and a and b not on one side of the plan line.
--            r
use Rattle.std.specs.Prelude.{ℕ, ◌+◌, ◌-◌, ◌*◌, ◌^◌, ◌<◌, ◌≤◌, min, max, ◌≡◌, Bool, true, not, ◌&&◌, ◌||◌, ltb}
use Rattle.course.specs.Course.{apart}
use Rattle.screen.specs.declared.Point.{Point}
use Rattle.screen.specs.declared.Wall.{Wall}
use Rattle.screen.specs.declared.plan.Sides.{Sides}
use Rattle.screen.specs.declared.plan.Ratio.{Ratio}

abbrev pub point : ℕ → ℕ → Point
point x y = record { x = x; y = y }

-- the two ends of a wall
abbrev pub start : Wall → Point
start w = point w.ends.x1 w.ends.y1

abbrev pub end : Wall → Point
end w = point w.ends.x2 w.ends.y2

-- ---- sides

-- once round a triangle, from a over b to c: what the shoelace formula adds. The other way round is what it takes off
unfoldable pub around : Point → Point → Point → ℕ
around a b c = a.x * b.y + b.x * c.y + c.x * a.y

-- twice the area of the triangle with its sign, as two sums: going from a to b, c lies on the side of the larger one, and on the line
-- where they are equal
abbrev pub turn : Point → Point → Point → Sides
turn a b c = record { left = around a b c; right = around b a c }

abbrev pub area : Sides → ℕ
area t = apart t.left t.right

-- strictly on opposite sides of one line; strictly on one side of it
abbrev pub opposite : Sides → Sides → Bool
opposite t u = (ltb t.left t.right && ltb u.right u.left) || (ltb t.right t.left && ltb u.left u.right)

abbrev pub beside : Sides → Sides → Bool
beside t u = (ltb t.left t.right && ltb u.left u.right) || (ltb t.right t.left && ltb u.right u.left)

-- ---- whether a wall counts between p and r, and where

unfoldable pub counts : Point → Point → Wall → Bool
counts p r w =
    opposite (turn (start w) (end w) p) (turn (start w) (end w) r)
    && not (beside (turn p r (start w)) (turn p r (end w)))

-- f, from the middle on
unfoldable pub fraction_of : Point → Point → Wall → Ratio
fraction_of p r w = record {
  num = area (turn (start w) (end w) p);
  den = area (turn (start w) (end w) p) + area (turn (start w) (end w) r);
}

-- ---- what is promised

-- on the line from a to b
abbrev pub On : Point → Point → Point → Type 0
On a b c = around a b c ≡ around b a c

-- f of the way from p to r, where a whole number of cm is there
pub record At (p r c : Point) (f : Ratio) : Type 0 where
  pub x : f.den * c.x ≡ (f.den - f.num) * p.x + f.num * r.x
  pub y : f.den * c.y ≡ (f.den - f.num) * p.y + f.num * r.y

pub record Promises (p r : Point) (w : Wall) : Type 0 where
  -- f lies strictly between 0 and 1, and what is there lies on the wall's line
  pub after_middle : counts p r w ≡ true → 0 < (fraction_of p r w).num
  pub before_point : counts p r w ≡ true → (fraction_of p r w).num < (fraction_of p r w).den
  pub on_wall : counts p r w ≡ true → (c : Point) → At p r c (fraction_of p r w) → On (start w) (end w) c
  -- a wall along the plan line does not count, nor one whose line goes through the middle or through the point
  pub not_along : On p r (start w) → On p r (end w) → counts p r w ≡ true → ⊥
  pub not_at_middle : On (start w) (end w) p → counts p r w ≡ true → ⊥
  pub not_at_point : On (start w) (end w) r → counts p r w ≡ true → ⊥

-- ---- which points and walls the code works with: coordinates of 24 bits, and walls of at most 20 m

pub record OnPlan (p : Point) : Type 0 where
  pub x : p.x < 2 ^ 24
  pub y : p.y < 2 ^ 24

pub record WallOnPlan (w : Wall) : Type 0 where
  pub from : OnPlan (start w)
  pub to : OnPlan (end w)
  pub low : w.height ≤ 2000

-- ---- what the code asks first of a wall: one with both ends on one side of the box of p and r does not count (proofs/Aside.antt)

-- a and b lie both below, or both above, p and r
abbrev pub clear : ℕ → ℕ → ℕ → ℕ → Bool
clear a b p r = ltb (max a b) (min p r) || ltb (max p r) (min a b)

abbrev pub aside : Point → Point → Wall → Bool
aside p r w = clear w.ends.x1 w.ends.x2 p.x r.x || clear w.ends.y1 w.ends.y2 p.y r.y
