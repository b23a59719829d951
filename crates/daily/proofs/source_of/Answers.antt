-- `source_of` puts the counts on the road of the same values.
-- Assumes nothing.
use mathlib.Core.Path.{ap, ◌∙◌}
use native.Mathlib.Omega.{arith}
use Rattle.daily.specs.declared.Daily.{Daily}
use Rattle.daily.specs.Daily.{counted}
use Rattle.daily.proofs.Laws.{road_fits, class_fits, dtv_fits}
use Rattle.daily.proofs.source_of.Goals as goal

pub road_of-requires : goal.road_of-requires
road_of-requires c =
    road_fits c.args.v.now c.requires

pub counted-requires : goal.counted-requires
counted-requires c = (
  omega (arith, ap (λ (d : Daily). d.class) c.daily_of.ensures, class_fits c.args.v.now c.requires),
  omega (arith, ap (λ (d : Daily). d.dtv) c.daily_of.ensures, dtv_fits c.args.v.now c.requires),
)

pub returns : goal.returns
returns c = c.counted.ensures ∙ (λ i. counted c.args.course (c.daily_of.ensures i) (c.road_of.ensures i))
