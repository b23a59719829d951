-- Each public function of the codec settles its outcome: what is read, and what is written with the answer. One line for each.
-- Assumes nothing.
use Rattle.answer.specs.Settled.{SettlesResult, SettlesBoth}
use Rattle.answer.proofs.Settled.{settled}
use Rattle.codec.proofs

extent_settled : SettlesResult proofs.extent.Reads.Post
extent_settled l a = settled _ _

read_settled : SettlesResult proofs.read.Reads.Post
read_settled l a = settled _ _

write_settled : SettlesBoth (λ l a e. e.1.1.0.now) proofs.write.Reads.Post
write_settled l a = settled _ _
