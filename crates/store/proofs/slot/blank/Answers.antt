-- `blank` looks at each number.
-- Assumes nothing.
use Rattle.std.proofs.Common.{rules, tests}
use Rattle.std.proofs.lemmas.Iterator.{cases_from_all, YieldsList-from_slice}
use Prim.Native.Nat.{ℕ}
use mathlib.Core.Path.{◌≡◌}
use Rattle.store.proofs.Slots.{zeros_by}
use Rattle.store.proofs.slot.blank.Goals as goal

pub returns : goal.returns
returns c =
    zeros_by c.args.vs.now _
    (cases_from_all _ _ _ (λ (x : ℕ). x ≡ 0) (λ (x : ℕ). x ≡ 0 → ⊥) c.all.ensures.ran (YieldsList-from_slice c.args.vs.now cc) (λ x q k. search (rules, tests)) (λ x q k. search (rules, tests)))
