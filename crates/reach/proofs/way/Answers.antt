-- `way` adds up distance, air, and ground or walls. Assumes nothing.
use mathlib.Core.Path.{ap₂}
use Prim.Native.Nat.{ℕ, ◌+◌, ◌/◌}
use native.Mathlib.Omega.{arith}
use Rattle.road.specs.Term.{term}
use Rattle.road.specs.Reach.{distance_term, obstacle_term}
use Rattle.road.proofs.Bounds.{lv_small}
use Rattle.road.proofs.Pairs.{obstacle_most}
use Rattle.reach.proofs.way.Goals as goal

pub overflow_add-down : goal.overflow_add-down
overflow_add-down c =
    omega (arith, c.lv.ensures, lv_small c.args.q c.requires.0 (omega arith))

pub overflow_add-down-2 : goal.overflow_add-down-2
overflow_add-down-2 c =
    omega (arith, c.lv.ensures, lv_small c.args.q c.requires.0 (omega arith), c.obstacle.ensures, obstacle_most c.args.h c.args.r c.args.screening c.requires.5)

pub returns : goal.returns
unfolding distance_term obstacle_term
returns c =
    let r : ℕ = c.args.r in
    ap₂ (λ (a b : ℕ). term 5120 (a + r / 200 + b)) c.lv.ensures c.obstacle.ensures
