-- `put_row` writes its parts one after another.
-- Assumes nothing.
use native.Mathlib.Omega.{arith}
use Rattle.longhand.specs.Sheet.{row}
use Rattle.text.proofs.Pages.{after}
use Rattle.longhand.proofs.Writing.{takes_columns, takes_short}
use Rattle.longhand.proofs.sheet.put_row.Goals as goal

pub put_short-requires : goal.put_short-requires
put_short-requires c = (omega arith, omega (arith, c.requires, takes_columns _ _ _ _ _ c.put_bits.ensures))

pub put_blanks-requires : goal.put_blanks-requires
put_blanks-requires c =
    omega (arith, c.requires, takes_columns _ _ _ _ _ c.put_bits.ensures, takes_short _ _ _ _ (omega arith) c.put_short.ensures)

pub put_bits-requires-2 : goal.put_bits-requires-2
put_bits-requires-2 c =
    omega (arith, c.requires, takes_columns _ _ _ _ _ c.put_bits.ensures, takes_short _ _ _ _ (omega arith) c.put_short.ensures, takes_columns _ _ _ _ _ c.put_blanks.ensures)

pub byte-requires : goal.byte-requires
byte-requires c =
    omega (arith, c.requires, takes_columns _ _ _ _ _ c.put_bits.ensures, takes_short _ _ _ _ (omega arith) c.put_short.ensures, takes_columns _ _ _ _ _ c.put_blanks.ensures, takes_columns _ _ _ _ _ c.put_bits-2.ensures)

pub returns : goal.returns
unfolding row
returns c =
    after _ _ _ (after _ _ _ (after _ _ _ (after _ _ _ c.put_bits.ensures _ _ c.put_short.ensures) _ _ c.put_blanks.ensures) _ _ c.put_bits-2.ensures) _ _ c.byte.ensures
