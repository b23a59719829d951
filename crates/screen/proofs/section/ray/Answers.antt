-- `ray` is no higher than the receiver. Assumes nothing.
use mathlib.Core.Path.{refl}
use Rattle.screen.specs.Section.{h_d}
use Rattle.screen.proofs.section.ray.Goals as goal

pub returns : goal.returns
unfolding h_d
returns c = refl
