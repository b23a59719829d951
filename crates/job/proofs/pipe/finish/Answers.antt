-- `finish` puts the last line at the front of the output and writes it. Assumes nothing.
use mathlib.Core.Path.{sym}
use lib.Seq.{length-take-le}
use Rattle.listing.specs.Listing.{end_line}
use Rattle.machine.proofs.Lines.{front_put}
use Rattle.job.proofs.pipe.finish.Goals as goal

pub slice_bounds-write_all-end : goal.slice_bounds-write_all-end
slice_bounds-write_all-end c =
    (front_put (end_line c.args.count) c.args.output.now _ c.end_line-wrote.result c.requires c.end_line-wrote.ensures c.end_line-wrote.auto.out).0

pub slice_bounds-write_all-end-2 : goal.slice_bounds-write_all-end-2
slice_bounds-write_all-end-2 c =
    sym
    (length-take-le c.end_line-wrote.result _
    (front_put (end_line c.args.count) c.args.output.now _ c.end_line-wrote.result c.requires c.end_line-wrote.ensures c.end_line-wrote.auto.out).0)

pub returns-then-not-told : goal.returns-then-not-told
returns-then-not-told c =
    let e = front_put (end_line c.args.count) c.args.output.now _ c.end_line-wrote.result c.requires c.end_line-wrote.ensures c.end_line-wrote.auto.out in
    record { within = e.0; last = e.1 }

pub returns-else-not-told : goal.returns-else-not-told
returns-else-not-told c =
    let e = front_put (end_line c.args.count) c.args.output.now _ c.end_line-wrote.result c.requires c.end_line-wrote.ensures c.end_line-wrote.auto.out in
    record { within = e.0; last = e.1 }
