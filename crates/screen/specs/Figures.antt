-- Figures worked by hand: 100 m, a point at 4 m, and a wall of 4 m across the middle. They are rows of the one table in `road`.
use Rattle.std.specs.Prelude.{ℕ, ◌+◌, ◌-◌, List, [], ◌∷◌}
use Rattle.level.specs.Figures.{Figure, ◌is◌}
use Rattle.course.specs.Course.{square, plan_between}
use Rattle.screen.specs.declared.Wall.{Wall}
use Rattle.screen.specs.declared.section.Section.{Section}
use Rattle.screen.specs.Plan.{point, fraction_of}
use Rattle.screen.specs.Section.{section_of, h_d, lift, z, Dz}

abbrev pub wall : ℕ → ℕ → ℕ → ℕ → ℕ → Wall
wall x1 y1 x2 y2 h = record { ends = record { x1 = x1; y1 = y1; x2 = x2; y2 = y2 }; height = h }

abbrev pub halfway : Section
halfway =
    section_of (plan_between 100000 100000 110000 100000) (plan_between 100000 100000 110000 100000 + square 350)
    (fraction_of (point 100000 100000) (point 110000 100000) (wall 105000 90000 105000 110000 400)) 400 400

unfoldable pub screens : List Figure
screens =
    (halfway.s0 is 100000) ∷ (halfway.s is 100061) ∷ (halfway.a is 50000) ∷ (halfway.b is 50000)
    ∷ (h_d halfway is 2250) ∷ (lift halfway is 1250) ∷ ((z halfway).over - (z halfway).through is 31) ∷ (Dz (z halfway) is 686) ∷ []
