-- Each public function of daily figures settles its outcome: one line for each.
-- Assumes nothing.
use Rattle.answer.specs.Settled.{SettlesResult}
use Rattle.answer.proofs.Settled.{settled}
use Rattle.daily.proofs

counted_settled : SettlesResult proofs.counted.Reads.Post
counted_settled l a = settled _ _

daily_of_settled : SettlesResult proofs.daily_of.Reads.Post
daily_of_settled l a = settled _ _

source_of_settled : SettlesResult proofs.source_of.Reads.Post
source_of_settled l a = settled _ _

values_settled : SettlesResult proofs.values.Reads.Post
values_settled l a = settled _ _

judge_settled : SettlesResult proofs.judge.Reads.Post
judge_settled l a = settled _ _
