-- `lifted` raises what is heard of a sum. Assumes nothing.
use mathlib.Core.Path.{ap, ◌∙◌}
use native.Mathlib.Omega.{arith}
use Rattle.index.specs.Index.{level_in, lift}
use Rattle.index.proofs.Laws.{level_small}
use Rattle.index.proofs.lifted.Goals as goal

pub raised-requires : goal.raised-requires
raised-requires c = (omega (arith, ap level_in c.level.ensures, level_small c.args.sum c.requires.0), c.requires.1)

pub returns : goal.returns
returns c = c.raised.ensures ∙ ap (lift c.args.addition) c.level.ensures
