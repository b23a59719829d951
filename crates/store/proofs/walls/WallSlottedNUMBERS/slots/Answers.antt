-- `slots` lends the static.
-- Assumes nothing.
use mathlib.Core.Path.{refl}
use Rattle.store.specs.Store.{walls_begin}
use Rattle.store.proofs.walls.WallSlottedNUMBERS.slots.Goals as goal

pub returns-clause-place : goal.returns-clause-place
unfolding walls_begin
returns-clause-place c = (refl, refl)
