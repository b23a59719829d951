-- Every account afresh is settled. Assumes nothing.
use Rattle.answer.specs.Settled.{SettlesResult}
use Rattle.answer.proofs.Settled.{settled}
use Rattle.afresh.proofs

go_afresh_settled : SettlesResult proofs.go_afresh.Reads.Post
go_afresh_settled l a = settled _ _
