-- `level` tells an energy below 10^6, which has no level, from the others. Assumes nothing.
use Rattle.std.specs.Prelude.{Some}
use mathlib.Core.Path.{sym, ap, ◌∙◌}
use native.Mathlib.Omega.{arith}
use Rattle.level.proofs.Laws.{heard_quiet, heard_level}
use Rattle.level.proofs.level.Goals as goal

pub returns-then-quiet : goal.returns-then-quiet
returns-then-quiet c = sym (heard_quiet c.args.energy (omega arith))

pub returns : goal.returns
returns c = ap Some c.level_of.ensures ∙ sym (heard_level c.args.energy (omega arith))
