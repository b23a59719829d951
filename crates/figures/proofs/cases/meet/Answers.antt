-- `meet` hears a road that is allowed as its pair with the point is heard.
-- Assumes nothing.
use Rattle.std.specs.Prelude.{Result, Ok, Err}
use Rattle.std.specs.Result.{MatchResult, is_ok}
use native.Mathlib.Omega.{arith}
use Rattle.answer.specs.declared.Refusal.{Refusal}
use Rattle.road.specs.declared.Bar.{Bar}
use Rattle.road.specs.declared.Shares.{Shares}
use Rattle.road.specs.Results.{Pair}
use mathlib.Core.Path.{◌≡◌, refl, sym, ap, ◌∙◌}
use Rattle.road.specs.Judge.{receiver_verdict}
use Rattle.std.proofs.lemmas.List.Elements.{All-nil}
use Rattle.screen.specs.Plan.{WallOnPlan}
use Rattle.road.specs.Reach.{pair_of}
use Rattle.road.specs.Figures.{home}
use Rattle.figures.proofs.cases.meet.Goals as goal

home_allowed : receiver_verdict home ≡ Ok tt
unfolding receiver_verdict
home_allowed = refl

-- where what is barred becomes a refusal, what is told was heard
heard : (p : Pair) (r : Result Shares Refusal) (Q : Bar → Type 0) (h : Shares) → MatchResult p (λ x. r ≡ Ok x) Q → is_ok r ≡ is_ok p → r ≡ Ok h → p ≡ Ok h
heard (Ok x) r Q h m v e = grind arith
heard (Err b) r Q h m v e = grind arith

pub sends-requires : goal.sends-requires
sends-requires c = sym c.in_ok-judge_source.ensures

pub pair-requires : goal.pair-requires
pair-requires c = ap receiver_verdict c.point.ensures ∙ home_allowed

pub of-requires : goal.of-requires
of-requires c = All-nil WallOnPlan

pub returns : goal.returns
returns c = λ h e.
    sym (c.pair.ensures ∙ (λ i. pair_of (c.of.ensures i) (c.sends.ensures i) (c.point.ensures i)))
    ∙ heard c.pair.result c.map_err.result _ h c.map_err.ensures.cases c.map_err.ensures.variant e
