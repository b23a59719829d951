-- `roots` goes from place to place with both numbers, and at each stand their lines. Assumes nothing.
use Rattle.root.proofs.Steps.{Stands}
use Rattle.root.proofs.roots.Given as goal

abbrev pub invariant-loop-at : goal.invariant-loop-at
invariant-loop-at l = Stands l.p l.at l.first × Stands l.q l.at l.second

abbrev pub decreases-loop-at : goal.decreases-loop-at
decreases-loop-at l = l.at
