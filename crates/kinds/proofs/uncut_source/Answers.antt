-- `uncut_source` takes the piece, and the fields behind it.
-- Assumes nothing.
use Prim.Native.Nat.{ℕ}
use mathlib.Core.Path.{refl, sym, ap₂, ◌∙◌}
use mathlib.Core.List.{List, [], ◌∷◌}
use lib.Seq.{drop-drop}
use Rattle.course.specs.declared.Course.TheVariants.{Uncut}
use Rattle.course.specs.declared.Piece.{Piece}
use Rattle.road.specs.Fields.{piece_table, source_table, bits_by, source_of}
use Rattle.request.specs.Kinds.{kind_bits, source_slot_bits, kind_at}
use Rattle.request.proofs.Laws.{table_fits}
use Rattle.kinds.proofs.uncut_source.Goals as goal

pub piece_of-requires : goal.piece_of-requires
unfolding kind_at
piece_of-requires c =
    table_fits piece_table (kind_bits ∷ source_slot_bits ∷ []) (bits_by source_table) c.args.v.now refl c.requires

pub source_of-s-requires : goal.source_of-s-requires
unfolding kind_at
source_of-s-requires c =
    table_fits source_table (kind_bits ∷ source_slot_bits ∷ bits_by piece_table) [] c.args.v.now refl c.requires

pub returns : goal.returns
unfolding kind_at
returns c =
    c.source_of-s.ensures ∙ ap₂ (λ (p : Piece) (l : List ℕ). source_of (Uncut p) l) c.piece_of.ensures (sym (drop-drop 3 2 c.args.v.now))
