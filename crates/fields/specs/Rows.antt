-- A row as the code has it: what a row of road/specs/Fields.antt says of a field, with the limits that hold for a.
-- `columns_same` in proofs/Rows.antt proves that these are its columns.
use Rattle.std.specs.Prelude.{ℕ, List, [], ◌∷◌, map}
use Rattle.road.specs.Fields as spec
use Rattle.fields.specs.declared.Row.{Row}

module _ {A : Type 0} where
  abbrev pub row_of : A → spec.Row A → Row
  row_of a r = record { number = r.number; bits = r.bits; bytes = r.bytes; least = r.least a; most = r.most a }

  abbrev pub rows_of : List (spec.Row A) → A → List Row
  rows_of t a = map (row_of a) t

-- its columns, in the order of road/specs/Fields.antt
abbrev pub columns_of : Row → List ℕ
columns_of r = r.number ∷ r.bits ∷ r.bytes ∷ r.least ∷ r.most ∷ []
