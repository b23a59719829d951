-- `put_short` writes all columns but the last, then the last digit.
-- Assumes nothing.
use native.Mathlib.Omega.{arith}
use Rattle.longhand.specs.Sheet.{short}
use Rattle.text.proofs.Pages.{after}
use Rattle.longhand.proofs.Writing.{takes_columns}
use Rattle.longhand.proofs.sheet.put_short.Goals as goal

pub put_columns-requires-2 : goal.put_columns-requires-2
put_columns-requires-2 c = omega (arith, c.requires, takes_columns _ _ _ _ _ c.put_columns.ensures)

pub returns : goal.returns
unfolding short
returns c = after _ _ _ c.put_columns.ensures _ _ c.put_columns-2.ensures
