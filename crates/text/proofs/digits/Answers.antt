-- `digits` gives one more than the logarithm; 0 has one digit, as each number up to 9 has.
use native.Mathlib.Omega.{arith}
use Rattle.std.proofs.Common.{sym}
use Rattle.text.proofs.Decimal.{length_digits}
use Rattle.text.proofs.digits.Goals as goal

pub returns : goal.returns
returns c = sym (length_digits c.ilog10.result c.args.x _ (omega (arith, c.max.ensures), omega (arith, c.max.ensures)) c.ilog10.ensures.power_le c.ilog10.ensures.next_power_gt)
