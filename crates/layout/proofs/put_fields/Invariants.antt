-- `put_fields` meets its contract: each turn of its loop is a step of `Sent`.
use Rattle.layout.proofs.Turns.{Sent}
use Rattle.layout.proofs.put_fields.Given as goal

abbrev pub invariant-loop-w : goal.invariant-loop-w
invariant-loop-w l = Sent l.initial.out l.ws l.vs l.out l.done l.have l.acc l.w-iterator.a.rest.now l.w-iterator.b.rest.now
