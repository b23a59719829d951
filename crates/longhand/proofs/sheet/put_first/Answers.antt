-- `put_first` writes the blanks, the number and a line feed.
-- Assumes nothing.
use native.Mathlib.Omega.{arith}
use Rattle.longhand.specs.Sheet.{first_line}
use Rattle.text.proofs.Pages.{after}
use Rattle.longhand.proofs.Writing.{takes_columns}
use Rattle.longhand.proofs.sheet.put_first.Goals as goal

pub put_bits-requires : goal.put_bits-requires
put_bits-requires c = omega (arith, c.requires, takes_columns _ _ _ _ _ c.put_blanks.ensures)

pub byte-requires : goal.byte-requires
byte-requires c = omega (arith, c.requires, takes_columns _ _ _ _ _ c.put_blanks.ensures, takes_columns _ _ _ _ _ c.put_bits.ensures)

pub returns : goal.returns
unfolding first_line
returns c = after _ _ _ (after _ _ _ c.put_blanks.ensures _ _ c.put_bits.ensures) _ _ c.byte.ensures
