-- The part of a job settles its outcome; the calls that are passed on do so in codec/proofs/Settled.antt.
-- Assumes nothing.
use Rattle.answer.specs.Settled.{Settles}
use Rattle.answer.proofs.Settled.{settled}
use Rattle.record.proofs

part_settled : Settles (λ l a r e. r.now) proofs.part.Reads.Post
part_settled l a = settled _ _
