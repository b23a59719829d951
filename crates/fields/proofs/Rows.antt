-- The rows of the code have the columns of the definition, and the tables of the code are those of the definitions.
-- Assumes nothing.
use Rattle.std.specs.Prelude.{List, [], ◌∷◌, map, ◌≡◌, refl}
use Rattle.std.proofs.Common.{ap}
use Rattle.course.specs.declared.Piece.{Piece}
use Rattle.course.specs.declared.Ends.{Ends}
use Rattle.road.specs.declared.Receiver.{Receiver}
use Rattle.road.specs.Fields.{rows_by, columns, piece_table, ends_table, source_table, receiver_table, wall_table, plain, plain_wall}
use Rattle.road.specs.Fields as spec
use Rattle.fields.specs.declared.TheConstants.{PIECE, ENDS, SOURCE, RECEIVER, WALL}
use Rattle.fields.specs.Rows.{rows_of, columns_of}

pub columns_same : {A : Type 0} (t : List (spec.Row A)) (a : A) → map columns_of (rows_of t a) ≡ rows_by t a
columns_same [] a = refl
columns_same (r ∷ t) a = ap (λ l. columns a r ∷ l) (columns_same t a)

pub piece_rows : (p : Piece) → PIECE ≡ rows_of piece_table p
piece_rows p = refl

pub ends_rows : (e : Ends) → ENDS ≡ rows_of ends_table e
ends_rows e = refl

pub receiver_rows : (r : Receiver) → RECEIVER ≡ rows_of receiver_table r
receiver_rows r = refl

-- with the limits of a road that rises between walls, and of a wall that has two ends
pub plain_rows : SOURCE ≡ rows_of source_table plain
plain_rows = refl

pub plain_wall_rows : WALL ≡ rows_of wall_table plain_wall
plain_wall_rows = refl
