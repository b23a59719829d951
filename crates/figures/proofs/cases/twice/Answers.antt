-- `twice` adds a share to itself: a share that is heard is at most 10^15.
-- Assumes nothing.
use native.Mathlib.Omega.{arith}
use Rattle.road.specs.Figures.{home}
use mathlib.Core.List.{[]}
use Rattle.road.specs.Reach.{pair_of}
use Rattle.road.proofs.Pairs.{pair_bounded, heard_most}
use Rattle.figures.proofs.cases.twice.Goals as goal

pub overflow_add-both : goal.overflow_add-both
overflow_add-both c =
    omega (arith, heard_most (pair_of []) (pair_bounded []) c.street.result home _ (c.meet.ensures _ c.in-Ok.is) 2)
