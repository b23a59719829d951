-- `first_outside` meets its contract. The first i values are inside, and the search goes on in the rest.
use Rattle.std.proofs.Common.{◌≡◌, ◌+◌}
use Rattle.layout.specs.Bounds.{first_outside}
use Rattle.layout.proofs.Bounds.{ahead}
use Rattle.layout.proofs.first_outside.Given as goal

abbrev pub invariant-loop-i : goal.invariant-loop-i
invariant-loop-i l = first_outside l.los l.his l.vs ≡ l.i + ahead l.los l.his l.vs l.i
