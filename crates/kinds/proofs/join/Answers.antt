-- `join` lays the fields behind kind and slot.
-- Assumes nothing.
use Rattle.std.specs.Prelude.{ℕ, [], ◌∷◌}
use Rattle.std.proofs.Common.{◌∙◌}
use mathlib.Core.Path.{ap₂}
use lib.ListN.{replicate}
use Rattle.layout.specs.Over.{over}
use Rattle.request.specs.Inner.{filled}
use Rattle.request.proofs.Laws.{filled_more}
use Rattle.kinds.specs.Kind.{number_of}
use Rattle.kinds.proofs.Laws.{number_by_tag}
use Rattle.kinds.proofs.join.Goals as goal

pub returns : goal.returns
unfolding filled
returns c =
    c.lay.ensures
    ∙ ap₂ (λ (k n : ℕ). over 2 c.args.fields.now (k ∷ n ∷ replicate 23 0)) (number_by_tag c.args.kind) c.from.ensures
    ∙ filled_more (number_of c.args.kind ∷ c.args.slot ∷ []) c.args.fields.now
