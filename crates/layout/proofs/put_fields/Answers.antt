-- `put_fields` meets its contract: each turn of its loop is a step of `Sent`.
use Rattle.std.proofs.Common.{◌<◌, ◌+◌, ◌%◌, arith, refl, inl, inr}
use Rattle.layout.proofs.Turns.{sent_none, sent_word, sent_more, sent_all, one_shl}
use Rattle.layout.proofs.put_fields.Goals as goal

pub loop-w-init : goal.loop-w-init
loop-w-init c =
    rw (c.into_iter-w-iterator.ensures.into_iter_gives, c.zip-w-items.ensures.first, c.iter.ensures.rest, c.zip-w-items.ensures.second.0)
    (sent_none c.requires.ws_value c.requires.ws_in_bounds.1)

pub overflow_add-x : goal.overflow_add-x
overflow_add-x c =
    let e = c.in-Some.ensures.steps in
    let n = sent_word c.loop-w.invariant e.0 e.1 {y = c.unbounded_shl.result} (rw c.from.ensures at c.unbounded_shl.ensures) in
    omega (arith, n.0, n.1)

pub loop-w-preserved : goal.loop-w-preserved
loop-w-preserved c =
    let e = c.in-Some.ensures.steps in
    let n = sent_word c.loop-w.invariant e.0 e.1 {y = c.unbounded_shl.result} (rw c.from.ensures at c.unbounded_shl.ensures) in
    let h : (c.loop-w.have + c.from-w.result) % 8 < 8 = omega arith in
    rw (one_shl _ h, c.put_number.ensures, c.from-w.ensures)
    (sent_more c.loop-w.invariant e.0 e.1 c.requires.ws_value c.requires.ws_in_bounds.0 (omega (arith, n.0)) refl refl)

pub returns : goal.returns
returns c =
    elim c.in-None.ensures.steps [
      | inl h ↦ sent_all c.loop-w.invariant c.requires.ws_value (inl h.1.0)
      | inr h ↦ sent_all c.loop-w.invariant c.requires.ws_value (inr h.1.0)
    ]
