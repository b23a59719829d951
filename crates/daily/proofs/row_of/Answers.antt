-- `row_of` gives a row of table 2: the code's table is the definition's.
-- Assumes nothing.
use mathlib.Core.List.{[]}
use lib.ListN.{get_or}
use Rattle.daily.specs.Daily.{table_two}
use Rattle.daily.proofs.row_of.Goals as goal

pub returns : goal.returns
returns c = λ i. get_or table_two (c.from.ensures i) []
