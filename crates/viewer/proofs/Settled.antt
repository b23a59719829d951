-- Each call of the viewer settles its outcome: the result, and the store or the output at exit.
-- Assumes nothing.
use Rattle.answer.specs.Settled.{SettlesBoth}
use Rattle.answer.proofs.Settled.{settled}
use Rattle.viewer.proofs

clear_settled : SettlesBoth (λ l a e. e.0.now) proofs.ngoretaiwhe_clear.Reads.Post
clear_settled l a = settled _ _

apply_settled : SettlesBoth (λ l a e. e.0.now) proofs.ngoretaiwhe_apply.Reads.Post
apply_settled l a = settled _ _

ask_settled : SettlesBoth (λ l a e. e.1.1.0.now) proofs.ngoretaiwhe_ask.Reads.Post
ask_settled l a = settled _ _
