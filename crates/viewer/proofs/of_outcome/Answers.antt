-- `of_outcome` is a refusal's number and place, or what is left to tell. Assumes nothing.
use Rattle.std.specs.Prelude.{Ok}
use Rattle.std.proofs.Math.Option.{none}
use Prim.Native.Nat.{ℕ}
use mathlib.Core.Path.{◌≡◌, refl, sym, ap, ◌∙◌}
use mathlib.Core.Bool.{Bool}
use Rattle.service.specs.declared.Report.{Report}
use Rattle.service.specs.declared.Report.TheVariants.{Done, Levels}
use Rattle.service.specs.Service.{Outcome}
use Rattle.service.specs.Service.{outcome_refusal}
use Rattle.viewer.specs.Viewer.{result_of, lastly}
use Rattle.viewer.proofs.of_outcome.Goals as goal

abbrev result : Bool → Outcome → ℕ
result more o = result_of (lastly more (outcome_refusal o))

done : (more : Bool) (r : Report) → result more (Ok r) ≡ result_of (lastly more none)
done more Done = refl
done more (Levels slot den night) = refl

pub returns-in-Ok : goal.returns-in-Ok
returns-in-Ok c = c.at_last.ensures ∙ sym (done c.args.more _) ∙ ap (result c.args.more) (sym c.in-Ok.is)

pub returns-in-Err : goal.returns-in-Err
returns-in-Err c = c.refused.ensures ∙ ap (result c.args.more) (sym c.in-Err.is)
