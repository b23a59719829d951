-- `digits` writes from the last digit to the first: those that are left, and then what is written, are all of them.
use Rattle.std.proofs.Common.{arith, ◌+◌, ap}
use Rattle.text.specs.Text.{last_digits}
use Rattle.text.proofs.Decimal.{length_last_digits}
use Rattle.text.proofs.Writing.{decimal_begun, decimal_put, decimal_done}
use Rattle.text.proofs.Pages.{lent}
use Rattle.text.proofs.Page.digits.Goals as goal

pub loop-left-init : goal.loop-left-init
loop-left-init c = decimal_begun _ c.args.n c.args.x (omega arith)

pub loop-left-preserved : goal.loop-left-preserved
loop-left-preserved c =
    decimal_put c.loop-left.out _ c.loop-left.left c.loop-left.rest (omega arith) (omega arith) c.loop-left.invariant

pub returns : goal.returns
returns c =
    let e = length_last_digits c.args.n c.args.x in
    rw (decimal_done c.loop-left.out _ c.loop-left.left c.loop-left.rest (omega arith) c.loop-left.invariant)
    (lent c.args.self.now (last_digits c.args.n c.args.x) _ (ap (c.args.self.now.at +◌) e))
