-- `put_columns` writes from the last column to the first: those that are left, and then what is written, are all of them.
use Rattle.std.proofs.Common.{◌≡◌, ◌++◌, drop}
use Rattle.longhand.specs.Sheet.{columns}
use Rattle.longhand.proofs.sheet.put_columns.Given as goal

abbrev pub invariant-loop-left : goal.invariant-loop-left
invariant-loop-left l = columns l.lead l.left l.rest ++ drop l.left l.out ≡ columns l.lead l.w l.v
