-- `way` works with a road that is up to 100 m from the point: what it asks is in range.
-- Assumes nothing.
use mathlib.Core.Path.{◌≡◌, ap}
use Prim.Native.Nat.{ℕ, ◌+◌, ◌*◌, ◌-◌, ◌≤◌, ◌<◌}
use native.Mathlib.Omega.{arith}
use Rattle.course.specs.declared.Piece.{Piece}
use Rattle.course.specs.Course.{apart, square}
use Rattle.road.specs.declared.Receiver.{Receiver}
use Rattle.road.specs.declared.Term.{Term}
use Rattle.road.specs.Figures.{home}
use Rattle.road.specs.Reach.{source_height, plan_square, distance_term, obstacle_term, farthest}
use Rattle.road.proofs.Bounds.{times}
use Rattle.road.proofs.Pairs.{Reached, reached, ground_most}
use Rattle.figures.proofs.cases.way.Goals as goal

-- the squared distance in the plan
near : (s : Piece) (r : Receiver) → apart s.x r.x ≤ 10000 → apart s.y r.y ≤ 0 → plan_square s r ≤ 100000000
unfolding plan_square
near s r a b =
    omega (arith, times (apart s.x r.x) (apart s.x r.x) 10000 10000 a a, times (apart s.y r.y) (apart s.y r.y) 0 0 b b)

passing : (x : ℕ) (s : Piece) (r : Receiver) (q0 : ℕ) → (100000 ≤ x) × (x ≤ 110000) → (s.x ≡ x) × (s.y ≡ 100000) → r ≡ home
    → q0 ≡ plan_square s r → q0 ≤ 100000000
passing x s r q0 p e f g =
    omega (
      arith,
      g,
      near s r
          (omega (arith, e.0, p.0, p.1, ap (λ (p : Receiver). p.x) f))
          (omega (arith, e.1, ap (λ (p : Receiver). p.y) f)),
    )

-- and in space
record Spaced (q : ℕ) : Type 0 where
  some : 1 ≤ q
  most : q ≤ farthest

spaced : (r : Receiver) (q0 q : ℕ) → r ≡ home → q0 ≤ 100000000 → q ≡ q0 + square (r.height - source_height) → Spaced q
spaced r q0 q f h e =
    let rise : square (r.height - source_height) ≡ 122500 = ap (λ (p : Receiver). square (p.height - source_height)) f in
    record { some = omega (arith, e, rise); most = omega (arith, e, rise, h) }

far : (q r : ℕ) → Spaced q → (r * r ≤ q) × (q < (r + 1) * (r + 1)) → Reached r
far q r s e = reached q r s.some s.most e

pub space-q-requires : goal.space-q-requires
space-q-requires c =
    let e = ap (λ (p : Receiver). p.height) c.point-r.ensures in
    (omega (arith, passing c.args.x c.piece.result c.point-r.result c.plan.result c.requires c.piece.ensures c.point-r.ensures c.plan.ensures), omega (arith, e), omega (arith, e))

pub ground-ground-requires : goal.ground-ground-requires
ground-ground-requires c =
    let h = passing c.args.x c.piece.result c.point-r.result c.plan.result c.requires c.piece.ensures c.point-r.ensures c.plan.ensures in
    let s = spaced c.point-r.result c.plan.result c.space-q.result c.point-r.ensures h c.space-q.ensures in
    let r = far c.space-q.result c.root-far.result s c.root-far.ensures in
    (omega arith, r.some, r.most)

pub way-way-requires : goal.way-way-requires
way-way-requires c =
    let h = passing c.args.x c.piece.result c.point-r.result c.plan.result c.requires c.piece.ensures c.point-r.ensures c.plan.ensures in
    let s = spaced c.point-r.result c.plan.result c.space-q.result c.point-r.ensures h c.space-q.ensures in
    let r = far c.space-q.result c.root-far.result s c.root-far.ensures in
    (s.some, s.most, omega arith, r.some, r.most, omega arith)

pub overflow_add-distance : goal.overflow_add-distance
unfolding distance_term obstacle_term
overflow_add-distance c =
    omega (arith, ap (λ (t : Term). t.up) c.way-way.ensures, c.ground-ground.ensures, ground_most 450 c.root-far.result)
