-- Where a road runs (METHOD 7): an uncut piece by its middle and its length, or between two ends; and the pieces that it is for a point.
-- Lengths are in cm. `root_of` is the root, down.
use Rattle.std.specs.Prelude.{ℕ, zero, suc, ◌+◌, ◌-◌, ◌*◌, ◌/◌, ◌^◌, ◌≤◌, ◌<◌, ◌≡◌, Bool, true, false, cond, ◌&&◌, List, [], ◌∷◌, ◌++◌, ltb}
use Rattle.root.specs.Root.{root_of}
use Rattle.course.specs.declared.Piece.{Piece}
use Rattle.course.specs.declared.Ends.{Ends}
use Rattle.course.specs.declared.Course.{Course}
use Rattle.course.specs.declared.Course.TheVariants.{Uncut, Between}

-- ---- distances in the plan

abbrev pub apart : ℕ → ℕ → ℕ
apart a b = (a - b) + (b - a)

abbrev pub square : ℕ → ℕ
square n = n * n

-- the squared distance of two points
abbrev pub plan_between : ℕ → ℕ → ℕ → ℕ → ℕ
plan_between x1 y1 x2 y2 = square (apart x1 x2) + square (apart y1 y2)

-- the mean of two coordinates, down
abbrev pub mean : ℕ → ℕ → ℕ
mean a b = (a + b) / 2

-- ---- a road between two ends: its length, its middle, its halves

unfoldable pub length_of : Ends → ℕ
length_of e = root_of (plan_between e.x1 e.y1 e.x2 e.y2)

abbrev pub lengths_of : Ends → Ends → ℕ × ℕ
lengths_of a b = (length_of a, length_of b)

-- all of it as one piece
unfoldable pub one_piece : Ends → Piece
one_piece e = record { x = mean e.x1 e.x2; y = mean e.y1 e.y2; length = length_of e }

-- it is cut at the middle
unfoldable pub first_half : Ends → Ends
first_half e = record { x1 = e.x1; y1 = e.y1; x2 = mean e.x1 e.x2; y2 = mean e.y1 e.y2 }

unfoldable pub second_half : Ends → Ends
second_half e = record { x1 = mean e.x1 e.x2; y1 = mean e.y1 e.y2; x2 = e.x2; y2 = e.y2 }

-- ---- the pieces for a point, by how far it is: `far p` is Q, the squared distance from the middle of p to the point

-- what is no longer is not cut
abbrev pub cut_above : ℕ
cut_above = 250

-- 4 l² above Q
abbrev pub too_long : ℕ → ℕ → Bool
too_long l q = ltb cut_above l && ltb q (4 * square l)

unfoldable pub long : (Piece → ℕ) → Ends → Bool
long far e = too_long (length_of e) (far (one_piece e))

-- the uncut pieces, from the first end on; n is as often as a piece may be halved
unfoldable pub cut : ℕ → (Piece → ℕ) → Ends → List Piece
cut zero far e = one_piece e ∷ []
cut (suc n) far e = elim (long far e) [ true ↦ cut n far (first_half e) ++ cut n far (second_half e) | false ↦ one_piece e ∷ [] ]

-- a half is shorter, so the length is as often as enough: `Promises` has the rule without n
unfoldable pub pieces_between : (Piece → ℕ) → Ends → List Piece
pieces_between far e = cut (length_of e) far e

abbrev pub pieces_of : (Piece → ℕ) → Course → List Piece
pieces_of far (Uncut p) = p ∷ []
pieces_of far (Between e) = pieces_between far e

-- all of a road as one piece
abbrev pub whole_of : Course → Piece
whole_of (Uncut p) = p
whole_of (Between e) = one_piece e

-- ---- what is promised

-- a piece is short enough for the squared distance q
abbrev pub Fits : ℕ → Piece → Type 0
Fits q p = 4 * square p.length ≤ q

-- each of a list
abbrev pub Every : (Piece → Type 0) → List Piece → Type 0
Every P [] = Unit
Every P (p ∷ ps) = P p × Every P ps

pub record Promises : Type 0 where
  -- the pieces of a long road are those of its first half and then of its second; a road that is not long is one piece
  pub rule : (far : Piece → ℕ) (e : Ends)
      → pieces_between far e ≡ cond (long far e) (pieces_between far (first_half e) ++ pieces_between far (second_half e)) (one_piece e ∷ [])
  -- the halves of a long road are shorter than it
  pub first_falls : (far : Piece → ℕ) (e : Ends) → long far e ≡ true → length_of (first_half e) < length_of e
  pub second_falls : (far : Piece → ℕ) (e : Ends) → long far e ≡ true → length_of (second_half e) < length_of e
  -- no uncut piece is too long, but one that is nearer than 5 m
  pub fit : (far : Piece → ℕ) (e : Ends) → Every (λ p. square (2 * cut_above) ≤ far p → Fits (far p) p) (pieces_between far e)

-- ---- which ends the code works with: those that 24 bits hold

pub record Mapped (e : Ends) : Type 0 where
  pub x1 : e.x1 < 2 ^ 24
  pub y1 : e.y1 < 2 ^ 24
  pub x2 : e.x2 < 2 ^ 24
  pub y2 : e.y2 < 2 ^ 24

abbrev pub Drawn : Course → Type 0
Drawn (Uncut p) = Unit
Drawn (Between e) = Mapped e
