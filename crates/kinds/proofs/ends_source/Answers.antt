-- `ends_source` takes the ends, and the fields behind them.
-- Assumes nothing.
use Prim.Native.Nat.{ℕ}
use mathlib.Core.Path.{refl, sym, ap₂, ◌∙◌}
use mathlib.Core.List.{List, [], ◌∷◌, ◌++◌}
use lib.Seq.{drop-drop}
use Rattle.course.specs.declared.Course.TheVariants.{Between}
use Rattle.course.specs.declared.Ends.{Ends}
use Rattle.road.specs.Fields.{ends_table, source_table, bits_by, source_of}
use Rattle.request.specs.Kinds.{kind_bits, source_slot_bits, kind_at}
use Rattle.request.proofs.Laws.{table_fits}
use Rattle.kinds.proofs.ends_source.Goals as goal

pub ends_of-requires : goal.ends_of-requires
unfolding kind_at
ends_of-requires c =
    table_fits ends_table (kind_bits ∷ source_slot_bits ∷ []) (bits_by source_table ++ (1 ∷ [])) c.args.v.now refl c.requires

pub source_of-requires : goal.source_of-requires
unfolding kind_at
source_of-requires c =
    table_fits source_table (kind_bits ∷ source_slot_bits ∷ bits_by ends_table) (1 ∷ []) c.args.v.now refl c.requires

pub returns : goal.returns
unfolding kind_at
returns c =
    c.source_of.ensures ∙ ap₂ (λ (e : Ends) (l : List ℕ). source_of (Between e) l) c.ends_of.ensures (sym (drop-drop 4 2 c.args.v.now))
