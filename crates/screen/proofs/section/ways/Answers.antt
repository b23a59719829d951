-- `ways` is both ways, each of two slopes. Assumes nothing.
use mathlib.Core.Path.{◌≡◌, ap, ap₂, ◌∙◌}
use Prim.Native.Nat.{ℕ, ◌+◌}
use native.Mathlib.Omega.{arith}
use Rattle.root.specs.Root.{root_of}
use Rattle.course.specs.Course.{apart, square}
use Rattle.screen.specs.Section.{A, B, A', B', z}
use Rattle.screen.proofs.Heights.{through_most}
use Rattle.screen.proofs.section.ways.Goals as goal

-- the square of a slope, by how far up it goes
abbrev up : ℕ → ℕ → ℕ
up along n = square along + square n

-- the sum of the two roots
abbrev roots : ℕ → ℕ → ℕ
roots x y = root_of x + root_of y

pub square_of-a_lifted-requires : goal.square_of-a_lifted-requires
square_of-a_lifted-requires c =
    let u = c.requires.0 in
    (omega (arith, u.before, u.plan), omega (arith, c.abs_diff-3.ensures, c.requires.1, through_most c.args.c u))

pub square_of-b_lifted-requires : goal.square_of-b_lifted-requires
square_of-b_lifted-requires c =
    let u = c.requires.0 in
    (omega (arith, u.behind, u.plan), omega (arith, c.abs_diff-4.ensures, c.requires.1, through_most c.args.c u, u.high))

pub returns : goal.returns
unfolding z
returns c =
    let s = c.args.c in
    let over : c.both-over.result ≡ A s + B s =
    c.both-over.ensures
    ∙ ap₂ roots
    (c.square_of-a.ensures.0 ∙ ap (up s.a) c.abs_diff.ensures)
    (c.square_of-b.ensures.0 ∙ ap (up s.b) c.abs_diff-2.ensures) in
    let through : c.both-lifted.result ≡ A' s + B' s =
    c.both-lifted.ensures
    ∙ ap₂ roots
    (c.square_of-a_lifted.ensures.0 ∙ ap (up s.a) (c.abs_diff-3.ensures ∙ ap (λ (n : ℕ). apart n 500) c.requires.1))
    (c.square_of-b_lifted.ensures.0 ∙ ap (up s.b) (c.abs_diff-4.ensures ∙ ap (λ (n : ℕ). apart n s.h) c.requires.1)) in
    λ i. record { over = over i; through = through i }
