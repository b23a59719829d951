-- Where rows or values run out, all are allowed.
use Rattle.std.specs.Prelude.{ℕ, Ok, List, [], ◌∷◌, ◌≡◌, length, refl}
use Rattle.std.proofs.Common.{◌∙◌, inl, inr, arith}
use Rattle.fields.specs.declared.Row.{Row}
use Rattle.road.specs.Results.{Verdict}
use Rattle.judge.specs.Rows.{judged}
use Rattle.judge.proofs.judged.Goals as goal

no_rows : (rs : List Row) (vs : List ℕ) → length rs ≡ 0 → ◌≡◌ {A = Verdict} (Ok tt) (judged rs vs)
no_rows [] vs e = refl
no_rows (r ∷ rs) vs e = absurd (omega arith)

no_values : (rs : List Row) (vs : List ℕ) → length vs ≡ 0 → ◌≡◌ {A = Verdict} (Ok tt) (judged rs vs)
no_values [] vs e = refl
no_values (r ∷ rs) [] e = refl
no_values (r ∷ rs) (v ∷ vs) e = absurd (omega arith)

pub returns : goal.returns
returns c =
    let rs = c.loop-row.row-iterator.a.rest.now in
    let vs = c.loop-row.row-iterator.b.rest.now in
    elim c.in-None.ensures.steps [
      | inl h ↦ no_rows rs vs h.1.0 ∙ c.loop-row.invariant
      | inr h ↦ no_values rs vs h.1.0 ∙ c.loop-row.invariant
    ]
