-- Each call on an undamaged store settles its outcome, the answer and the store at exit; that the store stays undamaged is said beside it.
-- And each index its result: one line for each. Assumes nothing.
use Rattle.answer.specs.Settled.{SettlesResult, SettlesBoth}
use Rattle.answer.proofs.Settled.{settled, settled_too}
use Rattle.index.proofs as index
use Rattle.undamaged.proofs

place_source_settled : SettlesBoth (λ l a e. e.0.now) proofs.place_source.Reads.Post
place_source_settled l a = settled_too _ _ _

withdraw_source_settled : SettlesBoth (λ l a e. e.0.now) proofs.withdraw_source.Reads.Post
withdraw_source_settled l a = settled_too _ _ _

place_receiver_settled : SettlesBoth (λ l a e. e.0.now) proofs.place_receiver.Reads.Post
place_receiver_settled l a = settled_too _ _ _

withdraw_receiver_settled : SettlesBoth (λ l a e. e.0.now) proofs.withdraw_receiver.Reads.Post
withdraw_receiver_settled l a = settled_too _ _ _

place_wall_settled : SettlesBoth (λ l a e. e.0.now) proofs.place_wall.Reads.Post
place_wall_settled l a = settled_too _ _ _

withdraw_wall_settled : SettlesBoth (λ l a e. e.0.now) proofs.withdraw_wall.Reads.Post
withdraw_wall_settled l a = settled_too _ _ _

ask_settled : SettlesBoth (λ l a e. a.0.now) proofs.ask.Reads.Post
ask_settled l a = settled _ _

-- ---- the indices, a crate that does not rest on the law

lnight_settled : SettlesResult index.lnight.Reads.Post
lnight_settled l a = settled _ _

lden_settled : SettlesResult index.lden.Reads.Post
lden_settled l a = settled _ _
