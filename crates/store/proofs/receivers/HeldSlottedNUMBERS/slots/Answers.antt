-- `slots` lends the static.
-- Assumes nothing.
use mathlib.Core.Path.{refl}
use Rattle.store.specs.Store.{split}
use Rattle.store.proofs.receivers.HeldSlottedNUMBERS.slots.Goals as goal

pub returns-clause-place : goal.returns-clause-place
unfolding split
returns-clause-place c = (refl, refl)
