-- The service settles its outcome, the deed and the store at exit; that the store stays undamaged is said beside it.
-- Assumes nothing.
use Rattle.answer.specs.Settled.{SettlesBoth}
use Rattle.answer.proofs.Settled.{settled_too}
use Rattle.service.proofs

serve_settled : SettlesBoth (λ l a e. e.0.now) proofs.serve.Reads.Post
serve_settled l a = settled_too _ _ _
