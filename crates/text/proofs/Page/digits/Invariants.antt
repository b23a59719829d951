-- `digits` writes from the last digit to the first: those that are left, and then what is written, are all of them.
use Rattle.std.proofs.Common.{◌≡◌, ◌++◌, drop}
use Rattle.text.specs.Text.{last_digits}
use Rattle.text.proofs.Page.digits.Given as goal

abbrev pub invariant-loop-left : goal.invariant-loop-left
invariant-loop-left l = last_digits l.left l.rest ++ drop l.left l.out ≡ last_digits l.n l.x
