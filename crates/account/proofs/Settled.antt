-- Each public function of an account settles its outcome: one line for each.
-- Assumes nothing.
use Rattle.answer.specs.Settled.{SettlesResult}
use Rattle.answer.proofs.Settled.{settled}
use Rattle.account.proofs

sound_settled : SettlesResult proofs.Account.sound.Reads.Post
sound_settled l a = settled _ _

room_settled : SettlesResult proofs.Account.room.Reads.Post
room_settled l a = settled _ _

covers_settled : SettlesResult proofs.Account.covers.Reads.Post
covers_settled l a = settled _ _

plus_settled : SettlesResult proofs.Account.plus.Reads.Post
plus_settled l a = settled _ _

minus_settled : SettlesResult proofs.Account.minus.Reads.Post
minus_settled l a = settled _ _
