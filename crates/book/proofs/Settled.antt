-- Each call of the book settles its outcome, the answer and the store at exit: one line for each.
-- Assumes nothing.
use Rattle.answer.specs.Settled.{SettlesBoth}
use Rattle.answer.proofs.Settled.{settled}
use Rattle.book.proofs

clear_settled : SettlesBoth (λ l a e. e.0.now) proofs.clear.Reads.Post
clear_settled l a = settled _ _

place_source_settled : SettlesBoth (λ l a e. e.0.now) proofs.place_source.Reads.Post
place_source_settled l a = settled _ _

withdraw_source_settled : SettlesBoth (λ l a e. e.0.now) proofs.withdraw_source.Reads.Post
withdraw_source_settled l a = settled _ _

place_receiver_settled : SettlesBoth (λ l a e. e.0.now) proofs.place_receiver.Reads.Post
place_receiver_settled l a = settled _ _

withdraw_receiver_settled : SettlesBoth (λ l a e. e.0.now) proofs.withdraw_receiver.Reads.Post
withdraw_receiver_settled l a = settled _ _

place_wall_settled : SettlesBoth (λ l a e. e.0.now) proofs.place_wall.Reads.Post
place_wall_settled l a = settled _ _

withdraw_wall_settled : SettlesBoth (λ l a e. e.0.now) proofs.withdraw_wall.Reads.Post
withdraw_wall_settled l a = settled _ _

ask_settled : SettlesBoth (λ l a e. a.0.now) proofs.ask.Reads.Post
ask_settled l a = settled _ _
