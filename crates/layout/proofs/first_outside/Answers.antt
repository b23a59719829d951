-- `first_outside` meets its contract. The first i values are inside, and the search goes on in the rest.
use Rattle.std.proofs.Common.{◌≡◌, length, arith, sym, ◌∙◌}
use Rattle.layout.proofs.Bounds.{outside_more, outside_low, outside_high, outside_end}
use Rattle.layout.proofs.first_outside.Goals as goal
use Rattle.layout.proofs.first_outside.Goals.{then-v-los-via-then-v-los, then-v-los-via-else-v-los+then-his-i}

pub returns-then-v-los : goal.returns-then-v-los
returns-then-v-los c =
    elim c.then-v-los.branch [
      | then-v-los-via-then-v-los w ↦ outside_low c.args.los.now c.args.his.now c.args.vs.now c.loop-i.i (omega arith) (omega arith) (omega arith)
          c.loop-i.invariant w.if-v-los.true
      | then-v-los-via-else-v-los+then-his-i w ↦ outside_high c.args.los.now c.args.his.now c.args.vs.now c.loop-i.i (omega arith) (omega arith) (omega arith)
          c.loop-i.invariant w.if-v-los.false w.if-his-i.true
    ]

pub loop-i-preserved : goal.loop-i-preserved
loop-i-preserved c =
    outside_more c.args.los.now c.args.his.now c.args.vs.now c.loop-i.i (omega arith) (omega arith) (omega arith)
    c.loop-i.invariant c.if-v-los.false c.if-his-i.false

pub returns : goal.returns
returns c =
    let e : length c.args.vs.now ≡ c.loop-i.i = omega arith in
    e ∙ outside_end c.args.los.now c.args.his.now c.args.vs.now c.loop-i.i (sym e) c.loop-i.invariant
