-- `put_term` writes a blank, the sign, a blank and the number.
-- Assumes nothing.
use native.Mathlib.Omega.{arith}
use Rattle.longhand.specs.Sheet.{term}
use Rattle.text.proofs.Pages.{left, after}
use Rattle.longhand.proofs.sheet.put_term.Goals as goal

pub byte-requires-2 : goal.byte-requires-2
byte-requires-2 c = omega (arith, c.requires, left _ _ _ c.byte.ensures)

pub byte-requires-3 : goal.byte-requires-3
byte-requires-3 c = omega (arith, c.requires, left _ _ _ c.byte.ensures, left _ _ _ c.byte-2.ensures)

pub decimal-requires : goal.decimal-requires
decimal-requires c =
    omega (arith, c.requires, left _ _ _ c.byte.ensures, left _ _ _ c.byte-2.ensures, left _ _ _ c.byte-3.ensures)

pub returns : goal.returns
unfolding term
returns c =
    after _ _ _ (after _ _ _ (after _ _ _ c.byte.ensures _ _ c.byte-2.ensures) _ _ c.byte-3.ensures) _ _ c.decimal.ensures
