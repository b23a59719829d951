-- `gamma` is the larger of the two, and they are one at 125 m. Assumes nothing.
use mathlib.Core.Path.{◌∙◌}
use native.Mathlib.Decide.{dec_le}
use native.Mathlib.Omega.{arith}
use borrow.Author.Tests.{le-leb, lt-leb}
use Prim.Native.Nat.{ℕ, ◌*◌, ◌≤◌, ◌<◌, max}
use mathlib.Core.Path.{◌≡◌}
use Rattle.screen.specs.Section.{gamma}
use Rattle.screen.proofs.section.gamma.Goals as goal

larger : (s : ℕ) → max (8 * s) 1000000 ≡ gamma s
unfolding gamma
larger s = go (dec_le s 125000)
  where
    go : Dec (s ≤ 125000) → max (8 * s) 1000000 ≡ gamma s
    go (yes l) = rw (le-leb s 125000 l) (omega arith)
    go (no l) = let m : 125000 < s = omega arith in rw (lt-leb s 125000 m) (omega arith)

pub returns : goal.returns
returns c = c.max.ensures ∙ larger c.args.s
