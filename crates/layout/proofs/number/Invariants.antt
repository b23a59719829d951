-- `number` meets its contract. The loop has read the number of the bytes before the index.
use Rattle.std.proofs.Common.{◌≡◌, take}
use Rattle.layout.specs.Layout.{num}
use Rattle.layout.proofs.number.Given as goal

abbrev pub invariant-loop-b : goal.invariant-loop-b
invariant-loop-b l = l.acc ≡ num (take l.b-index l.b-items)
