-- `daily_of` takes the two values after those of the road, which fit what the code makes of them.
-- Assumes nothing.
use native.Mathlib.Omega.{arith}
use Rattle.daily.proofs.Laws.{figures_there, class_fits, dtv_fits}
use Rattle.daily.proofs.daily_of.Goals as goal

pub bounds-v-9 : goal.bounds-v-9
bounds-v-9 c = omega (arith, figures_there c.args.v.now c.requires)

pub overflow_cast-class : goal.overflow_cast-class
overflow_cast-class c = omega (arith, class_fits c.args.v.now c.requires)

pub bounds-v : goal.bounds-v
bounds-v c = omega (arith, figures_there c.args.v.now c.requires)

pub overflow_cast-dtv : goal.overflow_cast-dtv
overflow_cast-dtv c = omega (arith, dtv_fits c.args.v.now c.requires)
