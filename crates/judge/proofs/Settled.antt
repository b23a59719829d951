-- Each public function of the judge settles its outcome: one line for each.
-- Assumes nothing.
use Rattle.answer.specs.Settled.{SettlesResult}
use Rattle.answer.proofs.Settled.{settled}
use Rattle.judge.proofs

judge_source_settled : SettlesResult proofs.judge_source.Reads.Post
judge_source_settled l a = settled _ _

judge_piece_settled : SettlesResult proofs.judge_piece.Reads.Post
judge_piece_settled l a = settled _ _

judge_course_settled : SettlesResult proofs.judge_course.Reads.Post
judge_course_settled l a = settled _ _

judge_rest_settled : SettlesResult proofs.judge_rest.Reads.Post
judge_rest_settled l a = settled _ _

judge_road_settled : SettlesResult proofs.judge_road.Reads.Post
judge_road_settled l a = settled _ _

judge_receiver_settled : SettlesResult proofs.judge_receiver.Reads.Post
judge_receiver_settled l a = settled _ _

judge_wall_settled : SettlesResult proofs.judge_wall.Reads.Post
judge_wall_settled l a = settled _ _

judge_slot_settled : SettlesResult proofs.judge_slot.Reads.Post
judge_slot_settled l a = settled _ _

judged_settled : SettlesResult proofs.judged.Reads.Post
judged_settled l a = settled _ _
