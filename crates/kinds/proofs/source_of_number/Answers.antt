-- A number that names a kind has its source, and any other one of zeros.
-- Assumes nothing.
use mathlib.Core.Path.{sym, ap, subst, ◌∙◌}
use Prim.Native.Nat.{ℕ}
use lib.ListN.{drop}
use Rattle.layout.specs.Layout.{Within}
use Rattle.request.specs.Kinds.{Kind, layout_of, source_in}
use Rattle.kinds.proofs.Laws.{named_number, unnamed_unlisted}
use Rattle.kinds.proofs.source_of_number.Goals as goal

pub source-requires : goal.source-requires
source-requires c =
    subst (λ (n : ℕ). Within (layout_of n) c.args.v.now) (sym (named_number c.args.number c.in-Some.kind (sym c.of.ensures ∙ c.in-Some.is))) c.requires

pub returns-in-Some : goal.returns-in-Some
returns-in-Some c = c.source.ensures ∙ ap (λ (n : ℕ). source_in n c.args.v.now) (named_number c.args.number c.in-Some.kind (sym c.of.ensures ∙ c.in-Some.is))

pub returns-in-None : goal.returns-in-None
returns-in-None c = c.blank.ensures ∙ ap (λ (x : Kind). x.source (drop 2 c.args.v.now)) (sym (unnamed_unlisted c.args.number (sym c.of.ensures ∙ c.in-None.is)))
