-- Each public function of the fields settles its outcome: one line for each.
-- Assumes nothing.
use Rattle.answer.specs.Settled.{SettlesResult}
use Rattle.answer.proofs.Settled.{settled}
use Rattle.fields.proofs

piece_values_settled : SettlesResult proofs.piece_values.Reads.Post
piece_values_settled l a = settled _ _

ends_values_settled : SettlesResult proofs.ends_values.Reads.Post
ends_values_settled l a = settled _ _

source_values_settled : SettlesResult proofs.source_values.Reads.Post
source_values_settled l a = settled _ _

receiver_values_settled : SettlesResult proofs.receiver_values.Reads.Post
receiver_values_settled l a = settled _ _

piece_of_settled : SettlesResult proofs.piece_of.Reads.Post
piece_of_settled l a = settled _ _

ends_of_settled : SettlesResult proofs.ends_of.Reads.Post
ends_of_settled l a = settled _ _

road_of_settled : SettlesResult proofs.road_of.Reads.Post
road_of_settled l a = settled _ _

source_of_settled : SettlesResult proofs.source_of.Reads.Post
source_of_settled l a = settled _ _

receiver_of_settled : SettlesResult proofs.receiver_of.Reads.Post
receiver_of_settled l a = settled _ _

wall_values_settled : SettlesResult proofs.wall_values.Reads.Post
wall_values_settled l a = settled _ _

wall_of_settled : SettlesResult proofs.wall_of.Reads.Post
wall_of_settled l a = settled _ _

source_rows_settled : SettlesResult proofs.source_rows.Reads.Post
source_rows_settled l a = settled _ _

wall_rows_settled : SettlesResult proofs.wall_rows.Reads.Post
wall_rows_settled l a = settled _ _
