-- `taken_off` has a level of at least 30 dB to take 30 dB off. Assumes nothing.
use mathlib.Core.Path.{sym, ap, ◌∙◌}
use Prim.Native.Nat.{ℕ, ◌+◌, ◌-◌, ◌*◌, ◌≤◌}
use native.Mathlib.Omega.{arith}
use Rattle.level.proofs.Laws.{lv_least}
use Rattle.screen.proofs.Heights.{off_some, off_none}
use Rattle.screen.proofs.section.taken_off.Goals as goal

pub overflow_sub-result : goal.overflow_sub-result
overflow_sub-result c =
    let n : 1000 ≤ 3000 + 60 * c.args.d.over - 60 * c.args.d.through = omega (arith, c.if-d.true) in
    omega (arith, c.lv.ensures, lv_least 3 (3000 + 60 * c.args.d.over - 60 * c.args.d.through) n)

pub returns-then-d : goal.returns-then-d
returns-then-d c =
    ap (λ (n : ℕ). n - 3000) c.lv.ensures ∙ sym (off_some c.args.d (omega (arith, c.if-d.true)))

pub returns : goal.returns
returns c = sym (off_none c.args.d (omega (arith, c.if-d.false)))
