-- `refill` leaves the bytes at hand, or moves them to the front and fetches more. Assumes nothing.
use Prim.Native.Nat.{◌-◌}
use native.Mathlib.Omega.{arith}
use lib.Dec.{leb}
use Rattle.request.specs.Kinds.{longest_record}
use Rattle.job.proofs.Laws.{stays_at_hand, short_of, held_front, refilled}
use Rattle.job.proofs.pipe.refill.Goals as goal

pub returns-then-over-to : goal.returns-then-over-to
returns-then-over-to c =
    stays_at_hand c.args.input.now c.args.from c.args.to _ _ c.requires.0 c.requires.1 c.if-over-to.true

pub fetch-requires : goal.fetch-requires
fetch-requires c =
    omega (arith, short_of c.args.over (c.args.to - c.args.from) c.if-over-to.false, c.hold.auto.input, c.requires.2)

pub returns : goal.returns
returns c =
    refilled c.args.over (leb longest_record (c.args.to - c.args.from)) _ _ _ _ c.if-over-to.false
    (held_front c.args.input.now _ c.args.from c.args.to c.requires.0 c.requires.1 c.hold.ensures) c.fetch.ensures
