-- A number that names a kind has its shape, and any other none.
-- Assumes nothing.
use mathlib.Core.Path.{sym, ap, ◌∙◌}
use Prim.Native.Nat.{ℕ}
use lib.ListN.{length}
use Rattle.layout.specs.Layout.{size}
use Rattle.request.specs.Kinds.{Kind}
use Rattle.request.specs.Inner.{shape_of}
use Rattle.kinds.proofs.Laws.{named_number, unnamed_unlisted}
use Rattle.kinds.proofs.shape_of_number.Goals as goal

pub returns-in-Some : goal.returns-in-Some
returns-in-Some c = c.shape_of.ensures ∙ ap (λ (n : ℕ). shape_of n) (named_number c.args.number c.in-Some.kind (sym c.of.ensures ∙ c.in-Some.is))

pub returns-in-None : goal.returns-in-None
returns-in-None c = ap (λ (x : Kind). record { count = length x.widths; fields = x.fields; bytes = size x.widths }) (sym (unnamed_unlisted c.args.number (sym c.of.ensures ∙ c.in-None.is)))
