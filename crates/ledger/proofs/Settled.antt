-- The refusal of a pair is settled. Of the other functions, what is: docs/DECISIONS.md says what they leave open, and why.
-- Assumes nothing.
use mathlib.Core.Path.{sym, ◌∙◌}
use Rattle.answer.specs.Settled.{Settles, SettlesResult}
use Rattle.answer.proofs.Settled.{settled}
use Rattle.store.specs.Store.{book_of}
use Rattle.ledger.proofs

bar_at_settled : SettlesResult proofs.round.bar_at.Reads.Post
bar_at_settled l a = settled _ _

-- what sources bring, and what a round comes to
gather_settled : SettlesResult proofs.gather.gather.Reads.Post
gather_settled l a = settled _ _

go_round_settled : SettlesResult proofs.round.go_round.Reads.Post
go_round_settled l a = settled _ _

-- the walls that are lent
standing_settled : SettlesResult proofs.fences.standing.Reads.Post
standing_settled l a = settled _ _

changed_settled : SettlesResult proofs.fences.changed.Reads.Post
changed_settled l a = settled _ _

-- the book that the seats leave
write_seats_settled : Settles (λ l a r e. book_of e.0.now) proofs.round.write_seats.Reads.Post
write_seats_settled l a x y p q = p.1 ∙ sym q.1
