-- `put_columns` writes from the last column to the first: those that are left, and then what is written, are all of them.
use Rattle.std.proofs.Common.{arith, ◌+◌, ap}
use Rattle.text.proofs.Pages.{lent}
use Rattle.longhand.specs.Sheet.{columns}
use Rattle.longhand.proofs.Writing.{length_columns, columns_begun, column_put, columns_done}
use Rattle.longhand.proofs.sheet.put_columns.Goals as goal

pub loop-left-init : goal.loop-left-init
loop-left-init c = columns_begun c.args.lead _ c.args.w c.args.v (omega arith)

pub loop-left-preserved : goal.loop-left-preserved
loop-left-preserved c =
    rw c.column.ensures
    (column_put c.args.lead c.loop-left.out _ c.loop-left.left c.loop-left.rest (omega arith) (omega arith) c.loop-left.invariant)

pub returns : goal.returns
returns c =
    let e = length_columns c.args.lead c.args.w c.args.v in
    rw (columns_done c.args.lead c.loop-left.out _ c.loop-left.left c.loop-left.rest (omega arith) c.loop-left.invariant)
    (lent c.args.page.now (columns c.args.lead c.args.w c.args.v) _ (ap (c.args.page.now.at +◌) e))
