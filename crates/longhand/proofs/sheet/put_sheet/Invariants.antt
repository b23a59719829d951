-- `put_sheet` puts the first line, a row at each place that the calculation comes to, and the sum.
use Rattle.longhand.proofs.Rows.{SoFar}
use Rattle.longhand.proofs.sheet.put_sheet.Given as goal

abbrev pub invariant-loop-i : goal.invariant-loop-i
invariant-loop-i l = SoFar l.q l.n l.i l.place l.line l.initial.page l.page
