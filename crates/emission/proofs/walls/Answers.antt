-- `walls` adds up to its most for walls that reflect and for those that absorb. Assumes nothing.
use mathlib.Core.Path.{◌≡◌, ◌∙◌}
use Prim.Native.Nat.{ℕ, ◌*◌, ◌/◌, min}
use native.Mathlib.Omega.{arith}
use Rattle.road.specs.Reach.{walls_term}
use borrow.Author.Tests.{ne_eqb}
use Rattle.emission.proofs.walls.Goals as goal

-- the smaller of two numbers, in either order
least : (a b : ℕ) → min a b ≡ min b a
least a b = omega arith

pub returns-in-1 : goal.returns-in-1
unfolding walls_term
returns-in-1 c =
    rw c.in-1.is (c.min.ensures ∙ (λ i. min (400 * c.from-high.ensures i / c.from-wide.ensures i) 320) ∙ least _ 320)

pub returns-in-2 : goal.returns-in-2
unfolding walls_term
returns-in-2 c =
    rw c.in-2.is (c.min-in-2.ensures ∙ (λ i. min (200 * c.from-high.ensures i / c.from-wide.ensures i) 160) ∙ least _ 160)

pub returns-in_default : goal.returns-in_default
unfolding walls_term
returns-in_default c = simp (ne_eqb c.args.kind 1 (λ e. omega arith), ne_eqb c.args.kind 2 (λ e. omega arith))
