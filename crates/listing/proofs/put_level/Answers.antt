-- `put_level` writes the text of quiet, or a level.
-- Assumes nothing.
use native.Mathlib.Omega.{arith}
use Rattle.text.proofs.Pages.{ends}
use Rattle.listing.proofs.put_level.Goals as goal

pub returns-in-None-clause-upper_bound : goal.returns-in-None-clause-upper_bound
returns-in-None-clause-upper_bound c = omega (arith, ends _ _ _ c.text.ensures)
