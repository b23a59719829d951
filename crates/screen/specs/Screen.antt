-- Which walls count between the middle p of a piece and the point r, and what they take off (METHOD 7).
use Rattle.std.specs.Prelude.{ℕ, Bool, true, false, cond, Option, Some, None, List, [], ◌∷◌, get_or, All}
use Rattle.screen.specs.declared.Point.{Point}
use Rattle.screen.specs.declared.Wall.{Wall}
use Rattle.screen.specs.declared.Met.{Met}
use Rattle.screen.specs.declared.Met.TheVariants.{Nothing, One, Several}
use Rattle.screen.specs.Plan.{WallOnPlan, counts}
use Rattle.screen.specs.Section.{screening_of}

-- ---- those that count, in order: none, one or several

unfoldable pub between : Point → Point → List Wall → List Wall
between p r [] = []
between p r (w ∷ ws) = cond (counts p r w) (w ∷ between p r ws) (between p r ws)

abbrev pub told : List Wall → Met
told [] = Nothing
told (w ∷ []) = One w
told (w ∷ v ∷ ws) = Several

unfoldable pub met_of : Point → Point → List Wall → Met
met_of p r ws = told (between p r ws)

-- ---- what they take off, by the point's height, Q0 and Q; None where more than one counts

abbrev pub Loss : Type 0
Loss = Option ℕ

abbrev pub loss_by : Point → Point → ℕ → ℕ → ℕ → Met → Loss
loss_by p r height q0 q Nothing = Some 0
loss_by p r height q0 q (One w) = Some (screening_of p r height q0 q w)
loss_by p r height q0 q Several = None

unfoldable pub loss_of : Point → Point → ℕ → ℕ → ℕ → List Wall → Loss
loss_of p r height q0 q ws = loss_by p r height q0 q (met_of p r ws)

-- more than one counts
abbrev pub is_twice : Loss → Bool
is_twice (Some n) = false
is_twice None = true

abbrev pub taken_off : Loss → ℕ
taken_off (Some n) = n
taken_off None = 0

-- ---- a wall as numbers, and the wall of numbers

abbrev pub wall_numbers : Wall → List ℕ
wall_numbers w = w.ends.x1 ∷ w.ends.y1 ∷ w.ends.x2 ∷ w.ends.y2 ∷ w.height ∷ []

abbrev pub wall_of : List ℕ → Wall
wall_of v = record { ends = record { x1 = get_or v 0 0; y1 = get_or v 1 0; x2 = get_or v 2 0; y2 = get_or v 3 0 }; height = get_or v 4 0 }

-- ---- walls that the code works with

abbrev pub AllOnPlan : List Wall → Type 0
AllOnPlan ws = All WallOnPlan ws

-- ---- one wall after the other, as the code goes

abbrev pub one_more : Met → Wall → Met
one_more Nothing w = One w
one_more (One v) w = Several
one_more Several w = Several

abbrev pub look_at : Point → Point → Met → Wall → Met
look_at p r met w = cond (counts p r w) (one_more met w) met
