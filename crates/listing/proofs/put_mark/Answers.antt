-- `put_mark` writes the mark, then the two digits.
-- Assumes nothing.
use native.Mathlib.Omega.{arith}
use Rattle.listing.specs.Listing.{two_digits}
use Rattle.text.specs.Text.{last_digits}
use Rattle.text.proofs.Pages.{left, after}
use Rattle.listing.proofs.put_mark.Goals as goal

pub digits-requires : goal.digits-requires
digits-requires c = omega (arith, left _ _ _ c.text.ensures, c.requires)

pub returns : goal.returns
unfolding last_digits
returns c = after _ _ _ c.text.ensures (two_digits c.args.x) _ c.digits.ensures
