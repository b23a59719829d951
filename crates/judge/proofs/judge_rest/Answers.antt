-- The fields after the course are judged by their rows, then surface and speed, then the trucks.
use Rattle.std.specs.Prelude.{ℕ, Bool, true, false, cond, List, Ok, Err, ◌≡◌, refl}
use Rattle.std.proofs.Common.{sym, ◌∙◌}
use Rattle.std.proofs.lemmas.Result.{err_from_is_err_and}
use Rattle.answer.specs.declared.Refusal.TheVariants.{SlowSurface, QuietTruck}
use Rattle.road.specs.declared.Source.{Source}
use Rattle.road.specs.Results.{Verdict}
use Rattle.road.specs.Fields.{source_table, values_by}
use Rattle.road.specs.Judge.{unless_outside, slow_surface, quiet_truck, rest_verdict}
use Rattle.road.proofs.Judged.{fields_after, first_allows, first_refuses}
use Rattle.fields.specs.declared.Row.{Row}
use Rattle.fields.specs.Rows.{rows_of}
use Rattle.judge.specs.Rows.{judged}
use Rattle.judge.proofs.Rows.{by_rows}
use Rattle.judge.proofs.judge_rest.Goals as goal

-- the verdict once no field is outside
abbrev rest : Source → Verdict
rest s = cond (slow_surface s) (Err SlowSurface) (cond (quiet_truck s) (Err QuietTruck) (Ok tt))

-- what is told of the fields
first : (s : Source) (rs : List Row) (vs : List ℕ) (r : Verdict) → r ≡ judged rs vs → rs ≡ rows_of source_table s → vs ≡ values_by source_table s
    → unless_outside source_table s (Ok tt) ≡ r
first s rs vs r f g h = sym (f ∙ (λ i. judged (g i) (h i)) ∙ by_rows source_table s)

-- where they are allowed the two tests decide
second : (s : Source) (a b : Bool) → unless_outside source_table s (Ok tt) ≡ Ok tt → slow_surface s ≡ a → quiet_truck s ≡ b
    → cond a (Err SlowSurface) (cond b (Err QuietTruck) (Ok tt)) ≡ rest_verdict s
unfolding rest_verdict
second s a b h e f =
    sym (first_allows _ (rest s) _ (fields_after source_table s (rest s)) h ∙ (λ i. cond (e i) (Err SlowSurface) (cond (f i) (Err QuietTruck) (Ok tt))))

pub returns-in_err-judged : goal.returns-in_err-judged
unfolding rest_verdict
returns-in_err-judged c =
    let s = c.args.s in
    let h = first s c.source_rows.result c.source_values.result c.judged.result c.judged.ensures c.source_rows.ensures c.source_values.ensures ∙ c.in_err-judged.was in
    let p = err_from_is_err_and c.from_residual.result c.from_residual.ensures.1 in
    rw (p.1, p.2) (sym (first_refuses _ (rest s) _ _ (fields_after source_table s (rest s)) h))

pub returns-then-slow_surface : goal.returns-then-slow_surface
returns-then-slow_surface c =
    let s = c.args.s in
    let h = first s c.source_rows.result c.source_values.result c.judged.result c.judged.ensures c.source_rows.ensures c.source_values.ensures ∙ c.in_ok-judged.was in
    second s true (quiet_truck s) h (sym c.slow_surface.ensures ∙ c.if-slow_surface.true) refl

pub returns-then-quiet_truck : goal.returns-then-quiet_truck
returns-then-quiet_truck c =
    let s = c.args.s in
    let h = first s c.source_rows.result c.source_values.result c.judged.result c.judged.ensures c.source_rows.ensures c.source_values.ensures ∙ c.in_ok-judged.was in
    second s false true h (sym c.slow_surface.ensures ∙ c.if-slow_surface.false) (sym c.quiet_truck.ensures ∙ c.if-quiet_truck.true)

pub returns : goal.returns
returns c =
    let s = c.args.s in
    let h = first s c.source_rows.result c.source_values.result c.judged.result c.judged.ensures c.source_rows.ensures c.source_values.ensures ∙ c.in_ok-judged.was in
    second s false false h (sym c.slow_surface.ensures ∙ c.if-slow_surface.false) (sym c.quiet_truck.ensures ∙ c.if-quiet_truck.false)
