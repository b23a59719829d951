-- `put_last` writes the sum part by part.
-- Assumes nothing.
use native.Mathlib.Omega.{arith}
use Rattle.longhand.specs.Sheet.{last_line}
use Rattle.text.proofs.Pages.{after, takes_decimal}
use Rattle.longhand.proofs.Writing.{takes_term}
use Rattle.longhand.proofs.sheet.put_last.Goals as goal

pub put_term-requires : goal.put_term-requires
put_term-requires c = omega (arith, c.requires, takes_decimal _ _ _ (omega arith) c.decimal.ensures)

pub put_term-requires-2 : goal.put_term-requires-2
put_term-requires-2 c =
    omega (arith, c.requires, takes_decimal _ _ _ (omega arith) c.decimal.ensures, takes_term _ _ _ _ (omega arith) c.put_term.ensures)

pub put_term-requires-3 : goal.put_term-requires-3
put_term-requires-3 c =
    omega (arith, c.requires, takes_decimal _ _ _ (omega arith) c.decimal.ensures, takes_term _ _ _ _ (omega arith) c.put_term.ensures, takes_term _ _ _ _ (omega arith) c.put_term-2.ensures)

pub byte-requires : goal.byte-requires
byte-requires c =
    omega (arith, c.requires, takes_decimal _ _ _ (omega arith) c.decimal.ensures, takes_term _ _ _ _ (omega arith) c.put_term.ensures, takes_term _ _ _ _ (omega arith) c.put_term-2.ensures, takes_term _ _ _ _ (omega arith) c.put_term-3.ensures)

pub returns : goal.returns
unfolding last_line
returns c =
    after _ _ _ (after _ _ _ (after _ _ _ (after _ _ _ c.decimal.ensures _ _ c.put_term.ensures) _ _ c.put_term-2.ensures) _ _ c.put_term-3.ensures) _ _ c.byte.ensures
