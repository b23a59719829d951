-- `values` puts class and vehicles a day where the traffic of a source begins.
-- Assumes nothing.
use Prim.Native.Nat.{suc}
use lib.ListN.{length, set}
use Rattle.road.specs.Fields.{road_table}
use Rattle.daily.proofs.values.Goals as goal

pub returns : goal.returns
returns c =
    λ i. set (set (c.source_values-values.ensures i) (length road_table) (c.from.ensures i)) (suc (length road_table)) (c.from-2.ensures i)
