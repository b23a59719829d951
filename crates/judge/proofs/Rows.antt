-- Values are judged by the rows of a table as the definition judges by the table.
-- Assumes nothing.
use Rattle.std.specs.Prelude.{suc, Bool, true, false, cond, List, [], ◌∷◌, ◌≡◌, refl, length, ltb, Ok, Err}
use Rattle.std.proofs.Common.{sym, ap, ◌∙◌, arith}
use borrow.Author.Tests.{lt-ltb}
use Rattle.std.proofs.Math.Dec.{leb-suc-suc}
use Rattle.layout.specs.Bounds.{allowed, onwards}
use Rattle.answer.specs.declared.Refusal.TheVariants.{Field}
use Rattle.road.specs.Results.{Verdict}
use Rattle.road.specs.Fields.{Row, values_by, number_at}
use Rattle.road.specs.Judge.{outside_by, unless_outside}
use Rattle.fields.specs.Rows.{rows_of}
use Rattle.judge.specs.Rows.{judged}

module _ {A : Type 0} where
  -- the first row of a table, and then the others
  next : (r : Row A) (t : List (Row A)) (a : A) (b : Bool)
      → cond b (unless_outside t a (Ok tt)) (Err (Field r.number))
      ≡ cond (ltb (onwards b (outside_by t a)) (length (r ∷ t))) (Err (Field (number_at (r ∷ t) (onwards b (outside_by t a))))) (Ok tt)
  next r t a true =
      ap (λ (x : Bool). cond x (Err (Field (number_at t (outside_by t a)))) (Ok tt)) (sym (leb-suc-suc (suc (outside_by t a)) (length t)))
  next r t a false = rw (lt-ltb 0 (suc (length t)) (omega arith)) refl

  pub by_rows : (t : List (Row A)) (a : A) → judged (rows_of t a) (values_by t a) ≡ unless_outside t a (Ok tt)
  by_rows [] a = refl
  by_rows (r ∷ t) a =
      let b : Bool = allowed (r.least a) (r.most a) (r.value a) in
      ap (λ (v : Verdict). cond b v (Err (Field r.number))) (by_rows t a) ∙ next r t a b
