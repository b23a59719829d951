-- `join_course` lays the fields behind kind, slot and course.
-- Assumes nothing.
use Prim.Native.Nat.{ℕ, ◌+◌}
use mathlib.Core.Path.{◌≡◌, ap₂, ◌∙◌}
use mathlib.Core.List.{List, ◌∷◌}
use native.Mathlib.Omega.{arith}
use lib.ListN.{length}
use Rattle.layout.specs.Over.{over}
use Rattle.request.proofs.Laws.{filled_more}
use Rattle.kinds.specs.Kind.{number_of}
use Rattle.kinds.proofs.join_course.Goals as goal

pub returns : goal.returns
returns c =
    let w = number_of c.args.kind ∷ c.args.slot ∷ c.args.course.now in
    let e : 2 + length c.args.course.now ≡ length w = omega arith in
    c.lay.ensures ∙ ap₂ (λ (n : ℕ) (l : List ℕ). over n c.args.fields.now l) e c.join-v.ensures ∙ filled_more w c.args.fields.now
