-- `feed` goes from record to record; the text so far, in front of what the rest leaves, is what all of them leave. Assumes nothing.
use Prim.Native.Nat.{◌-◌}
use mathlib.Core.Path.{◌≡◌}
use lib.ListN.{length}
use Rattle.machine.proofs.Feeding.{Going}
use Rattle.machine.proofs.feed.Given as goal

abbrev pub invariant-loop-count : goal.invariant-loop-count
invariant-loop-count l =
    Going l.over l.initial.count l.held l.initial.store l.initial.out l.store l.out l.used l.wrote l.count × (length l.store ≡ length l.initial.store)

abbrev pub decreases-loop-count : goal.decreases-loop-count
decreases-loop-count l = length l.held - l.used
