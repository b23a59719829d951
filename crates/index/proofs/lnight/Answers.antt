-- `lnight` is the level of the night's sum. Assumes nothing.
use mathlib.Core.Path.{ap, ◌∙◌}
use Rattle.index.specs.Index.{tenths_of}
use Rattle.index.proofs.Laws.{level_any}
use Rattle.index.proofs.lnight.Goals as goal

pub in_tenths-requires : goal.in_tenths-requires
in_tenths-requires c = rw c.requires (level_any c.args.night c.ranges.night.fits)

pub returns : goal.returns
returns c = c.in_tenths.ensures ∙ ap tenths_of c.requires
