-- `number` meets its contract. The loop has read the number of the bytes before the index.
use Rattle.std.proofs.Common.{ℕ, ◌≡◌, ◌<◌, ◌≤◌, ◌+◌, ◌-◌, ◌^◌, List, take, drop, length, arith, sym, ap, ◌∙◌, length-take}
use Rattle.std.proofs.Math.Seq.{take-length}
use Rattle.layout.specs.Layout.{num, Bytes}
use Rattle.layout.proofs.Numbers.{num_none, bytes_take, bytes_drop}
use Rattle.layout.proofs.Turns.{number_more, number_lt}
use Rattle.layout.proofs.number.Goals as goal

-- there is room for a byte more
small : (s : List ℕ) (at k i acc : ℕ) → Bytes s → k ≤ 8 → i < length (take k (drop at s)) → acc ≡ num (take i (take k (drop at s))) → acc < 2 ^ 56
small s at k i acc b h l e =
    let t = take k (drop at s) in
    omega (arith, e, number_lt t i (bytes_take k (drop at s) (bytes_drop at s b)) (omega (arith, length-take k (drop at s))))

pub loop-b-init : goal.loop-b-init
loop-b-init c = sym num_none

pub overflow_mul-acc : goal.overflow_mul-acc
overflow_mul-acc c = omega (arith, small c.args.s.now c.args.at _ _ _ (λ i. (c.type_inv.s i).fits) (omega arith) c.loop-b-test.true c.loop-b.invariant)

pub overflow_add-acc : goal.overflow_add-acc
overflow_add-acc c =
    omega (arith, small c.args.s.now c.args.at _ _ _ (λ i. (c.type_inv.s i).fits) (omega arith) c.loop-b-test.true c.loop-b.invariant, c.from.ensures)

pub loop-b-preserved : goal.loop-b-preserved
loop-b-preserved c = number_more _ c.loop-b.b-index c.loop-b.acc _ c.loop-b-test.true c.from.ensures c.loop-b.invariant

pub returns : goal.returns
returns c =
    let t = take (c.args.at + c.args.n - c.args.at) (drop c.args.at c.args.s.now) in
    let e : c.loop-b.b-index ≡ length t = omega arith in
    let k : c.args.at + c.args.n - c.args.at ≡ c.args.n = omega arith in
    c.loop-b.invariant ∙ ap (λ (i : ℕ). num (take i t)) e ∙ ap num (take-length t) ∙ ap (λ (i : ℕ). num (take i (drop c.args.at c.args.s.now))) k
