-- `advance` feeds the bytes at hand and writes the text that the feed hands out. Assumes nothing.
use native.Mathlib.Omega.{arith}
use mathlib.Core.Path.{sym}
use mathlib.Core.Bool.{not}
use lib.Seq.{length-take-le}
use Rattle.machine.specs.Inner.{part}
use Rattle.machine.proofs.Lines.{part_length}
use Rattle.machine.proofs.Good.{feeds}
use Rattle.job.proofs.Laws.{advanced}
use Rattle.job.proofs.pipe.advance.Goals as goal

pub slice_bounds-write_all-end : goal.slice_bounds-write_all-end
slice_bounds-write_all-end c =
    let fed = feeds c.args.hand.over c.args.x (part c.args.hand.from c.args.hand.to c.args.input.now) c.args.store.now c.args.output.now c.feed-p.result _ _ c.feed-p.ensures.0 c.feed-p.auto.out in
    omega (arith, fed.wrote_within, c.feed-p.auto.out)

pub slice_bounds-write_all-end-2 : goal.slice_bounds-write_all-end-2
slice_bounds-write_all-end-2 c =
    let fed = feeds c.args.hand.over c.args.x (part c.args.hand.from c.args.hand.to c.args.input.now) c.args.store.now c.args.output.now c.feed-p.result _ _ c.feed-p.ensures.0 c.feed-p.auto.out in
    sym (length-take-le c.feed-p.result.wrote _ (omega (arith, fed.wrote_within, c.feed-p.auto.out)))

pub overflow_add-next : goal.overflow_add-next
overflow_add-next c =
    let fed = feeds c.args.hand.over c.args.x (part c.args.hand.from c.args.hand.to c.args.input.now) c.args.store.now c.args.output.now c.feed-p.result _ _ c.feed-p.ensures.0 c.feed-p.auto.out in
    record { fits = omega (arith, fed.used_within, part_length c.args.input.now c.args.hand.from c.args.hand.to c.requires.1 c.requires.2, c.requires.3) }

pub returns : goal.returns
returns c =
    let fed = feeds c.args.hand.over c.args.x (part c.args.hand.from c.args.hand.to c.args.input.now) c.args.store.now c.args.output.now c.feed-p.result _ _ c.feed-p.ensures.0 c.feed-p.auto.out in
    advanced c.args.hand c.args.x c.args.input.now c.args.store.now c.args.output.now c.feed-p.result _ _ (not c.is_ok-told.result) c.requires.1 c.requires.2 c.requires.3
    c.feed-p.auto.out c.feed-p.ensures.1 fed
