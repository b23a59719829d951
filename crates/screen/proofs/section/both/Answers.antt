-- `both` adds two roots. Assumes nothing.
use native.Mathlib.Omega.{arith}
use Rattle.screen.proofs.Heights.{root_most}
use Rattle.screen.proofs.section.both.Goals as goal

pub overflow_add-result : goal.overflow_add-result
overflow_add-result c =
    rw c.roots-a.ensures (record { fits = omega (arith, root_most c.args.x 4000000 c.requires.0, root_most c.args.y 4000000 c.requires.1) })
