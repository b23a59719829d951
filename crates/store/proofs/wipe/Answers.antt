-- `wipe` fills the whole store.
-- Assumes nothing.
use Prim.Native.Nat.{ℕ}
use mathlib.Core.Path.{ap, ◌∙◌}
use lib.ListN.{replicate}
use Rattle.store.specs.Store.{cleared_bytes}
use Rattle.store.proofs.wipe.Goals as goal

pub returns : goal.returns
unfolding cleared_bytes
returns c = c.fill.ensures.after (λ y e. e) ∙ ap (λ (n : ℕ). replicate n 0) c.requires
