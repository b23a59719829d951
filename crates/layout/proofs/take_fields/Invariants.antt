-- `take_fields` meets its contract: each turn of its loop is a step of `Taken`.
use Rattle.layout.proofs.Turns.{Taken}
use Rattle.layout.proofs.take_fields.Given as goal

abbrev pub invariant-loop-i : goal.invariant-loop-i
invariant-loop-i l = Taken l.s l.ws l.vs l.at l.i
