-- The clerk's call settles its outcome, the deed and the store at exit.
-- Assumes nothing.
use Rattle.answer.specs.Settled.{SettlesBoth}
use Rattle.answer.proofs.Settled.{settled}
use Rattle.clerk.proofs

apply_settled : SettlesBoth (λ l a e. e.0.now) proofs.apply.Reads.Post
apply_settled l a = settled _ _
