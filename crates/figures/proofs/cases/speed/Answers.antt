-- `speed` asks for the pace of a road that is allowed, which is small.
-- Assumes nothing.
use mathlib.Core.Path.{◌≡◌}
use native.Mathlib.Omega.{arith}
use Rattle.road.specs.declared.Source.{Source}
use Rattle.road.specs.declared.Pace.{Pace}
use Rattle.road.specs.Inner.{pace_of}
use Rattle.road.proofs.Sums.{Paced, paced}
use Rattle.figures.proofs.cases.speed.Goals as goal

small : (s : Source) (p : Pace) → p ≡ pace_of s → Paced p
small s p e = rw e (paced s)

pub speed-requires : goal.speed-requires
speed-requires c = let k = small c.street-s.result c.pace_of-pace.result c.pace_of-pace.ensures in (k.car, k.gain, omega arith)

pub speed-requires-in-Ok : goal.speed-requires-in-Ok
speed-requires-in-Ok c = let k = small c.street-s.result c.pace_of-pace.result c.pace_of-pace.ensures in (k.car, k.gain, omega arith)
