-- What is left to judge gives the verdict.
use Rattle.std.proofs.Common.{◌≡◌}
use Rattle.judge.specs.Rows.{judged}
use Rattle.judge.proofs.judged.Given as goal

abbrev pub invariant-loop-row : goal.invariant-loop-row
invariant-loop-row l = judged l.row-iterator.a.rest.now l.row-iterator.b.rest.now ≡ judged l.rows l.values
