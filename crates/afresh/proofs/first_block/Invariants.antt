-- `first_block` looks at one receiver after the other. Assumes nothing.
use mathlib.Core.Path.{◌≡◌}
use lib.ListN.{drop}
use Rattle.ledger.specs.Ledger.{first_block}
use Rattle.afresh.proofs.first_block.Given as goal

abbrev pub invariant-loop-j : goal.invariant-loop-j
invariant-loop-j l = first_block 0 l.tallies ≡ first_block l.j (drop l.j l.tallies)
