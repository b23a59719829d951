-- `daily_source` takes the piece, and what stands for the figures behind it.
-- Assumes nothing.
use Prim.Native.Nat.{ℕ}
use mathlib.Core.Path.{refl, sym, ap, ap₂, ◌∙◌}
use mathlib.Core.List.{List, [], ◌∷◌, ◌++◌}
use lib.ListN.{length, drop}
use lib.Seq.{drop-drop}
use Rattle.course.specs.declared.Course.TheVariants.{Uncut}
use Rattle.course.specs.declared.Piece.{Piece}
use Rattle.road.specs.Fields.{piece_table, bits_by, source_of}
use Rattle.road.proofs.Rows.{upto_take}
use Rattle.daily.specs.Daily.{daily_bits, daily_of, counted}
use Rattle.request.specs.Kinds.{kind_bits, source_slot_bits, kind_at}
use Rattle.request.proofs.Laws.{part_there, part_fits, table_fits}
use Rattle.kinds.proofs.daily_source.Goals as goal

pub piece_of-requires : goal.piece_of-requires
unfolding kind_at
piece_of-requires c =
    table_fits piece_table (kind_bits ∷ source_slot_bits ∷ []) (daily_bits ++ (2 ∷ [])) c.args.v.now refl c.requires

pub slice_bounds-source_of-end : goal.slice_bounds-source_of-end
unfolding kind_at
slice_bounds-source_of-end c =
    part_there (kind_bits ∷ source_slot_bits ∷ bits_by piece_table) daily_bits (2 ∷ []) c.args.v.now c.requires

pub source_of-requires : goal.source_of-requires
unfolding kind_at
source_of-requires c =
    part_fits (kind_bits ∷ source_slot_bits ∷ bits_by piece_table) daily_bits (2 ∷ []) c.args.v.now c.requires

pub returns : goal.returns
unfolding kind_at
returns c =
    c.source_of.ensures
    ∙ ap (λ (w : List ℕ). counted (Uncut c.piece_of.result) (daily_of w) (source_of (Uncut c.piece_of.result) w)) (upto_take (length daily_bits) (drop 5 c.args.v.now))
    ∙ ap₂ (λ (x : Piece) (l : List ℕ). counted (Uncut x) (daily_of l) (source_of (Uncut x) l)) c.piece_of.ensures (sym (drop-drop 3 2 c.args.v.now))
