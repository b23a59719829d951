-- `energy_at`: from zero on the energy is E of the difference, and below zero the difference settles it. Assumes nothing.
use mathlib.Core.Path.{sym, ◌∙◌}
use native.Mathlib.Omega.{arith}
use Rattle.level.proofs.Signs.{energy_from_zero, energy_apart}
use Rattle.level.proofs.energy_at.Goals as goal

pub returns-then-down-up : goal.returns-then-down-up
returns-then-down-up c = c.energy.ensures ∙ sym (energy_from_zero c.args.up c.args.down (omega arith))

pub returns : goal.returns
returns c = c.energy_below.ensures ∙ sym (energy_apart c.args.up c.args.down (omega arith))
