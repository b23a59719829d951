-- `ngoretaiwhe_ask` asks the book, and writes what it tells or nothing. Assumes nothing.
use mathlib.Core.Path.{sym, ap, subst, ◌∙◌}
use Prim.Native.Nat.{ℕ}
use Rattle.std.specs.Prelude.{Ok}
use Rattle.calls.specs.declared.Reply.{Reply}
use Rattle.calls.specs.Calls.{Answer}
use Rattle.viewer.proofs.Laws.{of_ask, same_answer, Tells, ask_tells}
use Rattle.viewer.proofs.ngoretaiwhe_ask.Goals as goal

abbrev replied : Reply → Answer
replied r = Ok r

pub returns-in-Ok-Levels : goal.returns-in-Ok-Levels
returns-in-Ok-Levels c =
    of_ask _ _ _ _ _ _ _ _ c.slot_of.ensures c.ask.ensures (c.in-Ok-Levels.is ∙ ap replied c.in-Ok-Levels.field-0-is) c.write_indices.ensures

pub returns-in-Ok-Done : goal.returns-in-Ok-Done
returns-in-Ok-Done c =
    let e = same_answer c.args.slot _ c.args.store.now _ c.slot_of.ensures c.ask.ensures in
    absurd (subst Tells (sym e ∙ c.in-Ok-Done.is ∙ ap replied c.in-Ok-Done.field-0-is) (ask_tells c.args.slot c.args.store.now))

pub returns-in-Err : goal.returns-in-Err
returns-in-Err c =
    of_ask _ _ _ _ _ _ _ _ c.slot_of.ensures c.ask.ensures c.in-Err.is (ap (λ (n : ℕ). (n, c.args.out.now)) c.refused.ensures)
