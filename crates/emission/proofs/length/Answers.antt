-- `length` is the level of a length over one metre. Assumes nothing.
use mathlib.Core.Path.{ap, ◌∙◌}
use Prim.Native.Nat.{ℕ}
use Rattle.level.specs.Level.{lv_of}
use Rattle.road.specs.Term.{term}
use Rattle.road.specs.Reach.{length_term}
use Rattle.emission.proofs.length.Goals as goal

pub returns : goal.returns
unfolding length_term
returns c = ap (λ (n : ℕ). term n 2000) (c.lv.ensures ∙ ap lv_of c.from.ensures)
