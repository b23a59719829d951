-- `reflection` reads table 7. Assumes nothing.
use lib.ListN.{get_or}
use Rattle.road.specs.Emission.{reflection_table, reflection_term}
use Rattle.emission.proofs.reflection.Goals as goal

pub returns : goal.returns
unfolding reflection_term
returns c = λ i. get_or reflection_table (c.from.ensures i) 0
