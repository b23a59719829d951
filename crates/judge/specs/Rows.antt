-- Values by rows: refused 5 with the number of the first row whose value is outside its limits, if there is one.
-- `by_rows` in proofs/Rows.antt proves that of the rows of a table this is `unless_outside` of road/specs/Judge.antt.
use Rattle.std.specs.Prelude.{ℕ, cond, List, [], ◌∷◌, Ok, Err}
use Rattle.layout.specs.Bounds.{allowed}
use Rattle.answer.specs.declared.Refusal.TheVariants.{Field}
use Rattle.road.specs.Results.{Verdict}
use Rattle.fields.specs.declared.Row.{Row}

abbrev pub judged : List Row → List ℕ → Verdict
judged [] vs = Ok tt
judged (r ∷ rs) [] = Ok tt
judged (r ∷ rs) (v ∷ vs) = cond (allowed r.least r.most v) (judged rs vs) (Err (Field r.number))
