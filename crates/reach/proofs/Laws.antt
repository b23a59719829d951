-- What the halving of a road rests on: the bounds of its halves, that a point is no farther than the squared distances hold, and that the
-- pair of a long road is that of its two halves. Assumes nothing.
use mathlib.Core.Path.{◌≡◌, ap, ◌∙◌}
use mathlib.Core.Bool.{Bool, true, false}
use mathlib.Core.List.{[], ◌∷◌}
use Prim.Native.Nat.{ℕ, ◌+◌, ◌-◌, ◌≤◌, ◌<◌}
use native.Mathlib.Omega.{arith}
use Rattle.course.specs.declared.Piece.{Piece}
use Rattle.course.specs.declared.Ends.{Ends}
use Rattle.course.specs.Course.{square, length_of, one_piece, first_half, second_half, long, pieces_between, Mapped}
use Rattle.course.proofs.Halves.{plan_small, first_some, second_some, first_mapped, second_mapped}
use Rattle.course.proofs.Rule.{long_above, first_falls, second_falls, pieces_cut, pieces_uncut}
use Rattle.road.specs.declared.Receiver.{Receiver}
use Rattle.road.specs.Reach.{source_height, plan_square, space_square, pair_over}
use Rattle.road.specs.Inner.{joined}
use Rattle.road.proofs.Fit.{FitPiece, FitReceiver}
use Rattle.road.proofs.Pairs.{join_is}

-- ---- distances

pub plan_most : (p : Piece) (r : Receiver) → FitPiece p → FitReceiver r → plan_square p r ≤ 600000000000000
unfolding plan_square
plan_most p r f g =
    omega (arith, plan_small p.x p.y r.x r.y (omega (arith, f.x)) (omega (arith, f.y)) (omega (arith, g.x)) (omega (arith, g.y)))

pub space_is : (p : Piece) (r : Receiver) (q0 q : ℕ) → q0 ≡ plan_square p r → q ≡ q0 + square (r.height - source_height) → q ≡ space_square p r
unfolding space_square
space_is p r q0 q e f = f ∙ ap (λ (n : ℕ). n + square (r.height - source_height)) e

-- ---- the pieces for a point

abbrev pub far : Receiver → Piece → ℕ
far r p = space_square p r

-- a half of a road that is cut
pub record Halved (e h : Ends) : Type 0 where
  pub mapped : Mapped h
  pub some : 1 ≤ length_of h
  pub falls : length_of h < length_of e

module _ (r : Receiver) (e : Ends) where
  module _ (l : long (far r) e ≡ true) (m : Mapped e) where
    pub first_halved : Halved e (first_half e)
    first_halved = record { mapped = first_mapped e m; some = first_some e (long_above (far r) e l); falls = first_falls (far r) e l }

    pub second_halved : Halved e (second_half e)
    second_halved = record { mapped = second_mapped e m; some = second_some e (long_above (far r) e l); falls = second_falls (far r) e l }

  module _ (f : Piece → ℕ → ℕ) (two : Piece → Bool) where
    pub over_cut : long (far r) e ≡ true
        → pair_over f two r (pieces_between (far r) e)
        ≡ joined (pair_over f two r (pieces_between (far r) (first_half e))) (pair_over f two r (pieces_between (far r) (second_half e)))
    over_cut l =
        ap (pair_over f two r) (pieces_cut (far r) e l)
        ∙ join_is f two r (pieces_between (far r) (first_half e)) (pieces_between (far r) (second_half e))

    pub over_uncut : long (far r) e ≡ false → pair_over f two r (pieces_between (far r) e) ≡ pair_over f two r (one_piece e ∷ [])
    over_uncut l = ap (pair_over f two r) (pieces_uncut (far r) e l)
