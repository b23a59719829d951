-- `field` meets its contract: the bits above the field fall out at the top of the word.
-- Out of eight bytes or out of those that hold the field, it is the same.
use Rattle.std.proofs.Common.{◌+◌, ◌*◌, ◌-◌, ◌/◌, ◌%◌, ◌∙◌, arith}
use Rattle.layout.proofs.Numbers.{window_at}
use Rattle.layout.proofs.Turns.{eight_front}
use Rattle.layout.proofs.field.Goals as goal

pub returns-in-Some : goal.returns-in-Some
returns-in-Some c =
    let s = c.args.s.now in
    let e = c.in-Some.ensures.cases in
    rw (c.from_be_bytes-x.ensures ∙ eight_front s c.in-Some.eight.now (c.args.at / 8) e.enough e.same)
    (window_at s c.args.at c.args.n 8 (c.args.at % 8) (λ i. (c.type_inv.s i).fits) (omega arith) (omega arith) (omega arith))

pub returns : goal.returns
returns c =
    let k = (c.args.at % 8 + c.args.n + 7) / 8 in
    rw c.number-x.ensures (window_at c.args.s.now c.args.at c.args.n k (64 - 8 * k + c.args.at % 8) (λ i. (c.type_inv.s i).fits) (omega arith) (omega arith) (omega arith))
