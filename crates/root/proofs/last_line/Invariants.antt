-- `last_line` goes from place to place, and at each stands the line of the bits brought down. Assumes nothing.
use Rattle.root.proofs.Steps.{Stands}
use Rattle.root.proofs.last_line.Given as goal

abbrev pub invariant-loop-place : goal.invariant-loop-place
invariant-loop-place l = Stands l.q l.place l.line

abbrev pub decreases-loop-place : goal.decreases-loop-place
decreases-loop-place l = l.place
