-- A number that names a kind has its layout, and any other an empty one.
-- Assumes nothing.
use mathlib.Core.Path.{sym, ap, ◌∙◌}
use Prim.Native.Nat.{ℕ}
use Rattle.request.specs.Kinds.{Kind, layout_of}
use Rattle.kinds.proofs.Laws.{named_number, unnamed_unlisted}
use Rattle.kinds.proofs.layout_of_number.Goals as goal

pub returns-in-Some : goal.returns-in-Some
returns-in-Some c = c.layout_of.ensures ∙ ap (λ (n : ℕ). layout_of n) (named_number c.args.number c.in-Some.kind (sym c.of.ensures ∙ c.in-Some.is))

pub returns-in-None : goal.returns-in-None
returns-in-None c = ap (λ (x : Kind). x.widths) (sym (unnamed_unlisted c.args.number (sym c.of.ensures ∙ c.in-None.is)))
