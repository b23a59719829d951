-- `run` clears the store; then the texts so far, in front of what is left, are the listing of what arrived. Assumes nothing.
use Rattle.std.proofs.Common.{◌-◌}
use Rattle.job.proofs.Laws.{Running}
use Rattle.job.proofs.pipe.run.Given as goal

abbrev pub invariant-loop : goal.invariant-loop
invariant-loop l = Running l.initial.store l.initial.input l.initial.output l.store l.input l.output l.s (140737488355328 - l.counter)
