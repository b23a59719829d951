-- `energy_below`: nothing from -60.01 dB on; above it, an entry of the table divided by the tens that are begun. Assumes nothing.
use mathlib.Core.Path.{sym, ap₂, ◌∙◌}
use Prim.Native.Nat.{ℕ, ◌+◌, ◌/◌}
use native.Mathlib.Omega.{arith}
use Rattle.level.proofs.Laws.{tens}
use Rattle.level.proofs.Signs.{energy_lower, energy_far_below}
use Rattle.level.proofs.energy_below.Goals as goal

pub returns-then-far : goal.returns-then-far
returns-then-far c = sym (energy_far_below 0 c.args.below (omega arith))

pub nonzero_div-result : goal.nonzero_div-result
nonzero_div-result c = rw c.tens.ensures (tens ((c.args.below + 999) / 1000))

pub returns : goal.returns
returns c =
    let below : ℕ = c.args.below in
    ap₂ ◌/◌ c.step.ensures c.tens.ensures ∙ sym (energy_lower below (omega arith))
