-- `meet` looks at one wall after the other. Assumes nothing.
use mathlib.Core.Path.{◌≡◌}
use lib.ListN.{take}
use Rattle.std.specs.List.{fold}
use Rattle.screen.specs.declared.Met.TheVariants.{Nothing}
use Rattle.screen.specs.Screen.{look_at}
use Rattle.screen.proofs.meet.Given as goal

abbrev pub invariant-loop-w : goal.invariant-loop-w
invariant-loop-w l = l.met ≡ fold (look_at l.p l.r) Nothing (take l.w-index l.walls)
