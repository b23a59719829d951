-- `steps` gives out the table of specs/: the two lists of a thousand numbers are the same. Assumes nothing.
use mathlib.Core.Path.{refl}
use Rattle.level.specs.Table.{table, first_quarter, second_quarter, third_quarter, fourth_quarter}
use Rattle.level.proofs.table.steps.Goals as goal

pub returns : goal.returns
unfolding table first_quarter second_quarter third_quarter fourth_quarter
returns c = refl
