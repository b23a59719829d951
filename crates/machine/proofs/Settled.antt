-- Each public function of the machine settles its outcome, the result with what it leaves of store and output: one line for each.
-- Assumes nothing.
use Prim.Native.Nat.{ℕ}
use mathlib.Core.List.{List}
use Rattle.answer.specs.Settled.{Settles}
use Rattle.answer.proofs.Settled.{settled, settled_too}
use Rattle.machine.specs.declared.Progress.{Progress}
use Rattle.machine.proofs

feed_settled : Settles {S = λ l. Progress × List ℕ × List ℕ} (λ l a r e. (r, e.1.0.now, e.1.1.1.1.0.now)) proofs.feed.Reads.Post
feed_settled l a = settled_too _ _ _

hold_settled : Settles (λ l a r e. e.0.now) proofs.hold.Reads.Post
hold_settled l a = settled _ _
