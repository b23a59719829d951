-- `voice` adds up what one period's traffic sends out; without traffic there is no voice. Assumes nothing.
use mathlib.Core.Path.{◌≡◌}
use Prim.Native.Nat.{ℕ, ◌≤◌, ◌<◌}
use native.Mathlib.Omega.{arith}
use native.Mathlib.Nat.{pos_of_ne-zero}
use Rattle.road.specs.declared.Term.{Term}
use Rattle.road.specs.declared.Traffic.{Traffic}
use Rattle.road.specs.declared.Pace.{Pace}
use Rattle.road.specs.Emission.{traffic_term}
use Rattle.road.specs.Inner.{speed_by}
use Rattle.road.specs.Limits.{most_vehicles, all_trucks}
use Rattle.road.proofs.Sums.{Small, weighed, small_traffic, small_speed}
use Rattle.emission.proofs.voice.Goals as goal

-- what the traffic and the speed give is small
at_25 : (lanes : ℕ) (t : Traffic) (r : Term) → r ≡ traffic_term lanes t → (t.m ≡ 0 → ⊥) → t.m ≤ most_vehicles → t.p ≤ all_trucks → Small 20000 r
at_25 lanes t r e some few part = rw e (small_traffic lanes t (weighed t (pos_of_ne-zero some) few part))

by_speed : (pace : Pace) (p : ℕ) (r : Term) → r ≡ speed_by pace p → pace.car ≤ 20000 → pace.gain < 1000000000 → p ≤ all_trucks → Small 40000 r
by_speed pace p r e car gain part = rw e (small_speed pace p (record { car = car; gain = gain }) part)

pub overflow_add-up : goal.overflow_add-up
overflow_add-up c =
    let p = c.requires.fits in
    let a = at_25 c.args.lanes c.args.t c.traffic-at_25.result c.traffic-at_25.ensures c.if-silent.false p.2 p.3 in
    let b = by_speed c.args.pace c.args.t.p c.speed-by_speed.result c.speed-by_speed.ensures p.0 p.1 p.3 in
    omega (arith, a.up, b.up)

pub overflow_add-up-2 : goal.overflow_add-up-2
overflow_add-up-2 c =
    let p = c.requires.fits in
    let a = at_25 c.args.lanes c.args.t c.traffic-at_25.result c.traffic-at_25.ensures c.if-silent.false p.2 p.3 in
    let b = by_speed c.args.pace c.args.t.p c.speed-by_speed.result c.speed-by_speed.ensures p.0 p.1 p.3 in
    omega (arith, a.up, b.up, c.requires.up_bound.0)

pub overflow_add-down : goal.overflow_add-down
overflow_add-down c =
    let p = c.requires.fits in
    let a = at_25 c.args.lanes c.args.t c.traffic-at_25.result c.traffic-at_25.ensures c.if-silent.false p.2 p.3 in
    let b = by_speed c.args.pace c.args.t.p c.speed-by_speed.result c.speed-by_speed.ensures p.0 p.1 p.3 in
    omega (arith, a.down, b.down)

pub overflow_add-down-2 : goal.overflow_add-down-2
overflow_add-down-2 c =
    let p = c.requires.fits in
    let a = at_25 c.args.lanes c.args.t c.traffic-at_25.result c.traffic-at_25.ensures c.if-silent.false p.2 p.3 in
    let b = by_speed c.args.pace c.args.t.p c.speed-by_speed.result c.speed-by_speed.ensures p.0 p.1 p.3 in
    omega (arith, a.down, b.down, c.requires.up_bound.1)
