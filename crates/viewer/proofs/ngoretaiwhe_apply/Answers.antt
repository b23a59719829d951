-- `ngoretaiwhe_apply` does a record as the clerk does, or tries it where bytes follow. Assumes nothing.
use mathlib.Core.Path.{subst}
use Prim.Native.Nat.{ℕ, ◌≤◌, ◌<◌}
use lib.ListN.{length}
use Rattle.viewer.proofs.Laws.{of_one, of_more}
use Rattle.viewer.proofs.ngoretaiwhe_apply.Goals as goal

pub returns-then-follows : goal.returns-then-follows
returns-then-follows c =
    of_more c.args.«record».now c.args.store.now _ _
    (subst (λ (n : ℕ). n < length c.args.«record».now) c.extent.ensures c.if-follows.true) c.trial-outcome.ensures c.of_outcome.ensures

pub returns : goal.returns
returns c =
    of_one c.args.«record».now c.args.store.now _ _ _
    (subst (λ (n : ℕ). length c.args.«record».now ≤ n) c.extent.ensures c.if-follows.false) c.apply-deed.ensures c.of_outcome-2.ensures
