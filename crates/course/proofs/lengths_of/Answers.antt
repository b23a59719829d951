-- `lengths_of` takes both roots. Assumes nothing.
use mathlib.Core.Path.{ap, ◌∙◌}
use native.Mathlib.Omega.{arith}
use Rattle.root.specs.Root.{root_of}
use Rattle.course.specs.Course.{length_of}
use Rattle.course.proofs.Halves.{length_small}
use Rattle.course.proofs.lengths_of.Goals as goal

pub overflow_cast-result : goal.overflow_cast-result
unfolding length_of
overflow_cast-result c =
    let e = ap (λ r. r.0) c.roots-first.ensures ∙ ap root_of c.squared.ensures in
    record { fits = omega (arith, e, length_small c.args.a c.requires.0) }

pub overflow_cast-result-2 : goal.overflow_cast-result-2
unfolding length_of
overflow_cast-result-2 c =
    let e = ap (λ r. r.1) c.roots-first.ensures ∙ ap root_of c.squared-2.ensures in
    record { fits = omega (arith, e, length_small c.args.b c.requires.1) }

pub returns : goal.returns
unfolding length_of
returns c = c.roots-first.ensures ∙ (λ i. (root_of (c.squared.ensures i), root_of (c.squared-2.ensures i)))
