-- `traffic` is equation 8, of all the traffic or of half of it. Assumes nothing.
use mathlib.Core.Path.{◌≡◌, ap, ◌∙◌}
use Prim.Native.Nat.{ℕ, ◌+◌, ◌*◌, ◌≤◌}
use native.Mathlib.Omega.{arith}
use borrow.Author.Tests.{eq-eqb, ne_eqb}
use Rattle.level.specs.Level.{lv_of}
use Rattle.road.specs.declared.Traffic.{Traffic}
use Rattle.road.specs.Term.{term}
use Rattle.road.specs.Emission.{traffic_term}
use Rattle.road.specs.Limits.{most_vehicles, all_trucks}
use Rattle.road.proofs.Bounds.{lv_told}
use Rattle.road.proofs.Sums.{weighed}
use Rattle.emission.proofs.traffic.Goals as goal

-- the vehicles by weight, of the wider numbers
wide : (t : Traffic) (m p : ℕ) → m ≡ t.m → p ≡ t.p → 1 ≤ t.m → t.m ≤ most_vehicles → t.p ≤ all_trucks → (1 ≤ m * (10000 + 82 * p)) × (5 * (m * (10000 + 82 * p)) ≤ 9000000000000)
wide t m p e f some few part =
    let w = weighed t some few part in
    rw (e, f) (w.some, w.half)

pub overflow_mul-vehicles : goal.overflow_mul-vehicles
overflow_mul-vehicles c =
    let w = wide c.args.t c.from-2.result c.from.result c.from-2.ensures c.from.ensures c.requires.0 c.requires.1 c.requires.2 in
    omega (arith, w.1)

pub overflow_mul-vehicles-then-lanes-eq1 : goal.overflow_mul-vehicles-then-lanes-eq1
overflow_mul-vehicles-then-lanes-eq1 c =
    let w = wide c.args.t c.from-2.result c.from.result c.from-2.ensures c.from.ensures c.requires.0 c.requires.1 c.requires.2 in
    omega (arith, w.1)

pub lv-half-requires : goal.lv-half-requires
lv-half-requires c =
    let w = wide c.args.t c.from-2.result c.from.result c.from-2.ensures c.from.ensures c.requires.0 c.requires.1 c.requires.2 in
    (omega (arith, w.0), omega (arith, w.1))

pub overflow_add-half : goal.overflow_add-half
overflow_add-half c =
    let w = wide c.args.t c.from-2.result c.from.result c.from-2.ensures c.from.ensures c.requires.0 c.requires.1 c.requires.2 in
    omega (arith, lv_told _ _ c.lv-half.ensures (omega (arith, w.0)) (omega (arith, w.1)))

pub lv-whole-requires : goal.lv-whole-requires
lv-whole-requires c =
    let w = wide c.args.t c.from-2.result c.from.result c.from-2.ensures c.from.ensures c.requires.0 c.requires.1 c.requires.2 in
    (w.0, omega (arith, w.1))

pub overflow_add-whole : goal.overflow_add-whole
overflow_add-whole c =
    let w = wide c.args.t c.from-2.result c.from.result c.from-2.ensures c.from.ensures c.requires.0 c.requires.1 c.requires.2 in
    omega (arith, lv_told _ _ c.lv-whole.ensures w.0 (omega (arith, w.1)))

pub returns-then-lanes-eq1 : goal.returns-then-lanes-eq1
unfolding traffic_term
returns-then-lanes-eq1 c =
    rw (eq-eqb c.args.lanes 1 c.if-lanes-eq1.true)
    (ap (λ (n : ℕ). term (3730 + n) 8000) (c.lv-half.ensures ∙ (λ i. lv_of (5 * (c.from-2.ensures i * (10000 + 82 * c.from.ensures i))))))

pub returns-else-lanes-eq1 : goal.returns-else-lanes-eq1
unfolding traffic_term
returns-else-lanes-eq1 c =
    rw (ne_eqb c.args.lanes 1 c.if-lanes-eq1.false)
    (ap (λ (n : ℕ). term (3730 + n) 7000) (c.lv-whole.ensures ∙ (λ i. lv_of (c.from-2.ensures i * (10000 + 82 * c.from.ensures i)))))
