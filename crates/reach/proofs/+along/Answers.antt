-- `along` by recursion: the number that falls is the road's length. A long road's halves are shorter, and the rules for a road that is
-- cut and for one that is not say that the result is the definition's. Assumes nothing.
use mathlib.Core.Path.{◌≡◌, sym, ap, ap₂, ◌∙◌, subst⁻¹}
use mathlib.Core.Bool.{Bool}
use mathlib.Core.List.{[], ◌∷◌}
use Prim.Native.Nat.{ℕ, ◌+◌, ◌-◌, ◌≤◌, ◌<◌}
use native.Mathlib.Omega.{arith}
use Rattle.course.specs.declared.Piece.{Piece}
use Rattle.course.specs.declared.Ends.{Ends}
use Rattle.course.specs.Course.{square, length_of, one_piece, too_long, long, pieces_between, Mapped}
use Rattle.road.specs.declared.Receiver.{Receiver}
use Rattle.road.specs.Limits.{longest}
use Rattle.road.specs.Pairs.{Mild}
use Rattle.road.specs.Reach.{source_height, plan_square, space_square, two_walls, pair_over}
use Rattle.road.specs.Inner.{share_by, joined}
use Rattle.road.proofs.Fit.{FitPiece, fit_one, fit_receiver}
use Rattle.road.proofs.Pairs.{over_bounded}
use Rattle.reach.proofs.Laws.{plan_most, space_is, far, Halved, first_halved, second_halved, over_cut, over_uncut}
use Rattle.reach.proofs.+along.Goals as goal

-- ---- what the arguments tell

abbrev Given : Ends → Piece → Type 0
Given e whole = Mapped e × (whole ≡ one_piece e) × (1 ≤ length_of e) × (length_of e ≤ longest)

piece : (e : Ends) (whole : Piece) → Given e whole → FitPiece whole
piece e whole p = subst⁻¹ FitPiece p.1 (fit_one e (record { mapped = p.0; some = p.2; short = p.3 }))

-- the test is the definition's
tested : (e : Ends) (whole : Piece) (r : Receiver) (q0 q : ℕ) (b : Bool) → whole ≡ one_piece e → q0 ≡ plan_square whole r
    → q ≡ q0 + square (r.height - source_height) → b ≡ too_long whole.length q → b ≡ long (far r) e
unfolding long one_piece
tested e whole r q0 q b w x y z =
    let s = space_is whole r q0 q x y in
    z ∙ ap₂ too_long (ap (λ (p : Piece). p.length) w) (s ∙ ap (λ (p : Piece). space_square p r) w)

-- what a half asks: it is shorter, and it has a length
below : (t : ℕ) (e h g : Ends) → h ≡ g → Halved e g → length_of e ≡ t → length_of e ≤ longest
    → (length_of h < t) × (Mapped h × (1 ≤ length_of h) × (length_of h ≤ longest))
below t e h g same k is most =
    let l = ap length_of same in
    (omega (arith, l, k.falls, is), (subst⁻¹ Mapped same k.mapped, omega (arith, l, k.some), omega (arith, l, k.falls, most)))

-- ---- how far the point is from the middle of all of it

pub plan-requires : goal.plan-requires
plan-requires t c =
    let f = piece c.args.e c.args.whole c.requires.mapped in
    let g = fit_receiver c.args.r c.requires.fits.1 in
    (f.x, f.y, g.x, g.y)

pub space-q-requires : goal.space-q-requires
space-q-requires t c =
    let g = fit_receiver c.args.r c.requires.fits.1 in
    (omega (arith, c.plan.ensures, plan_most c.args.whole c.args.r (piece c.args.e c.args.whole c.requires.mapped) g), omega (arith, g.low), omega (arith, g.high))

pub too_long-requires : goal.too_long-requires
too_long-requires t c = omega (arith, (piece c.args.e c.args.whole c.requires.mapped).short)

-- ---- a road that is cut

pub lengths_of-first_length-requires : goal.lengths_of-first_length-requires
lengths_of-first_length-requires t c =
    let is = sym (tested c.args.e c.args.whole c.args.r _ _ _ c.requires.mapped.1 c.plan.ensures c.space-q.ensures c.too_long.ensures) ∙ c.if-too_long.true in (
      subst⁻¹ Mapped c.first_half-first.ensures (first_halved c.args.r c.args.e is c.requires.mapped.0).mapped,
      subst⁻¹ Mapped c.second_half-second.ensures (second_halved c.args.r c.args.e is c.requires.mapped.0).mapped,
    )

pub whole-requires : goal.whole-requires
whole-requires t c =
    let is = sym (tested c.args.e c.args.whole c.args.r _ _ _ c.requires.mapped.1 c.plan.ensures c.space-q.ensures c.too_long.ensures) ∙ c.if-too_long.true in (
      subst⁻¹ Mapped c.first_half-first.ensures (first_halved c.args.r c.args.e is c.requires.mapped.0).mapped,
      ap (λ (l : ℕ × ℕ). l.0) c.lengths_of-first_length.ensures,
    )

pub along-a-requires : goal.along-a-requires
along-a-requires t c =
    let is = sym (tested c.args.e c.args.whole c.args.r _ _ _ c.requires.mapped.1 c.plan.ensures c.space-q.ensures c.too_long.ensures) ∙ c.if-too_long.true in
    let b = below t c.args.e _ _ c.first_half-first.ensures (first_halved c.args.r c.args.e is c.requires.mapped.0) c.decreases c.requires.mapped.3 in
    (b.0, (c.requires.fits, (b.1.0, c.whole.ensures, b.1.1, b.1.2)))

pub whole-requires-then-too_long : goal.whole-requires-then-too_long
whole-requires-then-too_long t c =
    let is = sym (tested c.args.e c.args.whole c.args.r _ _ _ c.requires.mapped.1 c.plan.ensures c.space-q.ensures c.too_long.ensures) ∙ c.if-too_long.true in (
      subst⁻¹ Mapped c.second_half-second.ensures (second_halved c.args.r c.args.e is c.requires.mapped.0).mapped,
      ap (λ (l : ℕ × ℕ). l.1) c.lengths_of-first_length.ensures,
    )

pub along-b-requires : goal.along-b-requires
along-b-requires t c =
    let is = sym (tested c.args.e c.args.whole c.args.r _ _ _ c.requires.mapped.1 c.plan.ensures c.space-q.ensures c.too_long.ensures) ∙ c.if-too_long.true in
    let b = below t c.args.e _ _ c.second_half-second.ensures (second_halved c.args.r c.args.e is c.requires.mapped.0) c.decreases c.requires.mapped.3 in
    (b.0, (c.requires.fits, (b.1.0, c.whole-then-too_long.ensures, b.1.1, b.1.2)))

pub join-requires : goal.join-requires
join-requires t c =
    let f = share_by c.args.walls.now c.args.voices c.args.r in
    let two = two_walls c.args.walls.now c.args.r in
    let x : Mild c.along-a.result = subst⁻¹ Mild c.along-a.ensures (over_bounded f two c.args.r (pieces_between (far c.args.r) c.first_half-first.result)) in
    let y : Mild c.along-b.result = subst⁻¹ Mild c.along-b.ensures (over_bounded f two c.args.r (pieces_between (far c.args.r) c.second_half-second.result)) in
    (search (x, y), search (x, y))

pub returns-then-too_long : goal.returns-then-too_long
returns-then-too_long t c =
    let is = sym (tested c.args.e c.args.whole c.args.r _ _ _ c.requires.mapped.1 c.plan.ensures c.space-q.ensures c.too_long.ensures) ∙ c.if-too_long.true in
    let f = share_by c.args.walls.now c.args.voices c.args.r in
    let two = two_walls c.args.walls.now c.args.r in
    let u = c.along-a.ensures ∙ ap (λ (x : Ends). pair_over f two c.args.r (pieces_between (far c.args.r) x)) c.first_half-first.ensures in
    let v = c.along-b.ensures ∙ ap (λ (x : Ends). pair_over f two c.args.r (pieces_between (far c.args.r) x)) c.second_half-second.ensures in
    c.join.ensures ∙ ap₂ joined u v ∙ sym (over_cut c.args.r c.args.e f two is)

-- ---- a road that is not

pub length-length-requires : goal.length-length-requires
length-length-requires t c =
    let f = piece c.args.e c.args.whole c.requires.mapped in
    (f.some, f.short)

pub alone-requires-clause-x_le_coordinate : goal.alone-requires-clause-x_le_coordinate
alone-requires-clause-x_le_coordinate t c =
    let f = piece c.args.e c.args.whole c.requires.mapped in
    (f.x, f.y, f.some, f.short)

pub returns : goal.returns
returns t c =
    let is = sym (tested c.args.e c.args.whole c.args.r _ _ _ c.requires.mapped.1 c.plan.ensures c.space-q.ensures c.too_long.ensures) ∙ c.if-too_long.false in
    let f = share_by c.args.walls.now c.args.voices c.args.r in
    let two = two_walls c.args.walls.now c.args.r in
    c.alone.ensures ∙ ap (λ (p : Piece). pair_over f two c.args.r (p ∷ [])) c.requires.mapped.1 ∙ sym (over_uncut c.args.r c.args.e f two is)
