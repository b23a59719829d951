-- `of_answer` is 0 but for a refusal. Assumes nothing.
use Rattle.std.specs.Prelude.{Ok}
use Prim.Native.Nat.{ℕ}
use mathlib.Core.Path.{◌≡◌, refl, sym, ap, ◌∙◌}
use Rattle.calls.specs.declared.Reply.{Reply}
use Rattle.calls.specs.declared.Reply.TheVariants.{Done, Levels}
use Rattle.calls.specs.Calls.{Answer}
use Rattle.calls.specs.Calls.{refusal_in}
use Rattle.viewer.specs.Viewer.{result_of}
use Rattle.viewer.proofs.of_answer.Goals as goal

abbrev result : Answer → ℕ
result a = result_of (refusal_in a)

done : (r : Reply) → result (Ok r) ≡ 0
done Done = refl
done (Levels den night) = refl

pub returns-in-Ok : goal.returns-in-Ok
returns-in-Ok c = sym (done _) ∙ ap result (sym c.in-Ok.is)

pub returns-in-Err : goal.returns-in-Err
returns-in-Err c = c.refused.ensures ∙ ap result (sym c.in-Err.is)
