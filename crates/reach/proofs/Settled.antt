-- Each public function of a pair settles its result: one line for each.
-- Assumes nothing.
use Rattle.answer.specs.Settled.{SettlesResult}
use Rattle.answer.proofs.Settled.{settled}
use Rattle.reach.proofs

plan_settled : SettlesResult proofs.plan.Reads.Post
plan_settled l a = settled _ _

space_settled : SettlesResult proofs.space.Reads.Post
space_settled l a = settled _ _

ground_settled : SettlesResult proofs.ground.Reads.Post
ground_settled l a = settled _ _

way_settled : SettlesResult proofs.way.Reads.Post
way_settled l a = settled _ _

pair_settled : SettlesResult proofs.pair.Reads.Post
pair_settled l a = settled _ _
