-- What the inner functions of the reader and the writer say of their arrays: 25 numbers for the fields of a kind, and its sizes.
-- No promise to a caller speaks of these.
use Rattle.std.specs.Prelude.{ℕ, List, ◌++◌, length, take, drop, replicate}
use Rattle.layout.specs.Layout.{size}
use Rattle.request.specs.declared.Shape.{Shape}
use Rattle.request.specs.Kinds.{Kind, kind_at, layout_of}

-- fields, with zeros after them
unfoldable pub filled : List ℕ → List ℕ
filled v = v ++ drop (length v) (replicate 25 0)

-- the fields of kind k among them
abbrev pub first_of : ℕ → List ℕ → List ℕ
first_of k v = take (length (layout_of k)) v

-- the size of a kind's layout
abbrev pub shape_by : Kind → Shape
shape_by k = record { count = length k.widths; fields = k.fields; bytes = size k.widths }

abbrev pub shape_of : ℕ → Shape
shape_of k = shape_by (kind_at k)
