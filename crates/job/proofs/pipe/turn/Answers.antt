-- `turn` fetches where bytes are wanted and does the records at hand. Assumes nothing.
use native.Mathlib.Omega.{arith}
use Rattle.job.proofs.Laws.{turned, turned_unread}
use Rattle.job.proofs.pipe.turn.Goals as goal

pub returns-then-hand : goal.returns-then-hand
returns-then-hand c =
    turned_unread c.args.s c.args.input.now c.args.store.now c.refill-hand.result _ c.refill-hand.ensures c.args.output.now c.requires.0

pub advance-requires : goal.advance-requires
advance-requires c =
    (c.requires.0, c.refill-hand.ensures.ordered, c.refill-hand.ensures.within, omega (arith, c.requires.4, c.refill-hand.auto.input), c.requires.5)

pub returns : goal.returns
returns c =
    turned c.args.s c.args.input.now c.args.store.now c.refill-hand.result _ c.refill-hand.ensures c.advance.result _ _ c.advance.ensures
