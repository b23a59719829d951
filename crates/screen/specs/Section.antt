-- The upright section through piece, wall and point (VBUS section 3.9), in mm. `root_of` is the root, down, and every division is down.
--
--                     edge              s0, s   from the source to the point, in the plan and in space
--                   .  |  .             a, b    the two parts of s0 at the wall
--              A .     |     . B        h, edge the heights of the point and of the wall's edge; the source is 500 above the road
--             .    h_d + lift    .       A, B    from the source and from the point to the edge
--          .   A'. ' | ' . B'     .     A', B'  from both to the bent ray, which goes through the wall at h_d + lift
--        p . '      h_d         ' . r
--        |      a    |      b      |
use Rattle.std.specs.Prelude.{ℕ, ◌+◌, ◌-◌, ◌*◌, ◌/◌, ◌≤◌, cond, leb, ltb}
use Rattle.root.specs.Root.{root_of}
use Rattle.level.specs.Level.{lv_of}
use Rattle.course.specs.Course.{apart, square}
use Rattle.screen.specs.declared.Point.{Point}
use Rattle.screen.specs.declared.Wall.{Wall}
use Rattle.screen.specs.declared.plan.Ratio.{Ratio}
use Rattle.screen.specs.declared.section.Section.{Section}
use Rattle.screen.specs.declared.section.Detour.{Detour}
use Rattle.screen.specs.Plan.{fraction_of}

-- ---- the section, by Q0 and Q in cm², f, and the heights of point and wall in cm

-- f of s0
abbrev pub part_of : Ratio → ℕ → ℕ
part_of f s0 = f.num * s0 / f.den

unfoldable pub section_of : ℕ → ℕ → Ratio → ℕ → ℕ → Section
section_of q0 q f height wall = record {
  s0 = root_of (100 * q0);
  s = root_of (100 * q);
  a = part_of f (root_of (100 * q0));
  b = root_of (100 * q0) - part_of f (root_of (100 * q0));
  h = 10 * height;
  edge = 10 * wall;
}

-- ---- equation 17: the height at which the straight ray goes through the wall

unfoldable pub h_d : Section → ℕ
h_d c = 500 + c.a * (c.h - 500) / c.s0

-- ---- equations 19 and 18: the ray is bent, and goes through the wall higher by the lift

unfoldable pub gamma : ℕ → ℕ
gamma s = cond (leb s 125000) 1000000 (8 * s)

unfoldable pub lift : Section → ℕ
lift c = c.a * c.b * c.s / (2 * gamma c.s * c.s0) * c.s / c.s0

-- ---- equation 16: the way over the edge, A and B, against the way through the wall, A' and B'

abbrev pub slope : ℕ → ℕ → ℕ
slope along up = root_of (square along + square up)

abbrev pub A : Section → ℕ
A c = slope c.a (apart c.edge 500)

abbrev pub B : Section → ℕ
B c = slope c.b (apart c.edge c.h)

abbrev pub A' : Section → ℕ
A' c = slope c.a (apart (h_d c + lift c) 500)

abbrev pub B' : Section → ℕ
B' c = slope c.b (apart (h_d c + lift c) c.h)

-- z = A + B - A' - B' may be negative, so it is held as both ways
unfoldable pub z : Section → Detour
z c = record { over = A c + B c; through = A' c + B' c }

-- ---- equation 15: what the wall takes off, for z of -33 mm and more

unfoldable pub Dz : Detour → ℕ
Dz d = cond (leb d.through (d.over + 33)) (lv_of (3000 + 60 * d.over - 60 * d.through) - 3000) 0

-- an edge below the straight ray screens nothing, although the detour may then be positive again
unfoldable pub screening : Section → ℕ
screening c = cond (ltb c.edge (h_d c)) 0 (Dz (z c))

-- ---- of a wall that counts between the middle p of a piece and the point r

unfoldable pub screening_of : Point → Point → ℕ → ℕ → ℕ → Wall → ℕ
screening_of p r height q0 q w = screening (section_of q0 q (fraction_of p r w) height w.height)

-- ---- what the code works with

-- points of at most 10 m height, at most 2 km away
pub record Reaches (height q0 q : ℕ) : Type 0 where
  pub low : 50 ≤ height
  pub high : height ≤ 1000
  pub some : 1 ≤ q0
  pub rises : q0 ≤ q
  pub near : q ≤ 40000000000

pub record Upright (c : Section) : Type 0 where
  pub some : 1 ≤ c.s0
  pub plan : c.s0 ≤ 2000000
  pub space : c.s ≤ 2000000
  pub before : c.a ≤ c.s0
  pub behind : c.b ≤ c.s0
  pub low : 500 ≤ c.h
  pub high : c.h ≤ 10000
  pub edge : c.edge ≤ 20000
