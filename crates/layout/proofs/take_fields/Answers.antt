-- `take_fields` meets its contract: each turn of its loop is a step of `Taken`.
use Rattle.std.proofs.Common.{arith}
use Rattle.layout.proofs.Turns.{taken_none, taken_more}
use Rattle.layout.proofs.take_fields.Goals as goal

pub loop-i-init : goal.loop-i-init
loop-i-init c = taken_none (omega arith) c.requires.ws_value

pub loop-i-preserved : goal.loop-i-preserved
loop-i-preserved c =
    taken_more c.loop-i.invariant c.requires.ws_value c.requires.ws_in_bounds.0 (λ i. (c.type_inv.s i).fits)
    (omega arith) (omega arith) c.from-n.ensures c.field.ensures
