-- `ready` is its definition. Assumes nothing.
use mathlib.Core.Path.{refl}
use Rattle.machine.proofs.ready.Goals as goal

pub returns : goal.returns
returns c = refl
