-- `room` is as long as a store. Assumes nothing.
use mathlib.Core.Path.{refl}
use Rattle.store.specs.Store.{store_length}
use Rattle.job.proofs.room.Goals as goal

pub returns : goal.returns
unfolding store_length
returns c = refl
