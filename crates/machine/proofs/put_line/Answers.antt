-- `put_line` lends the output from the place on; the line stands there afterwards. Assumes nothing.
use native.Mathlib.Omega.{arith}
use Rattle.listing.specs.Listing.{line_of}
use Rattle.machine.proofs.Lines.{line_put}
use Rattle.machine.proofs.put_line.Goals as goal

pub overflow_add-result : goal.overflow_add-result
overflow_add-result c =
    record { fits = omega (arith, (line_put (line_of c.args.n c.args.outcome) c.args.out.now c.args.at c.requires c.line-wrote.result c.line-wrote.new.out c.line-wrote.ensures c.line-wrote.auto.out).within) }

pub returns : goal.returns
returns c =
    line_put (line_of c.args.n c.args.outcome) c.args.out.now c.args.at c.requires c.line-wrote.result c.line-wrote.new.out c.line-wrote.ensures c.line-wrote.auto.out
