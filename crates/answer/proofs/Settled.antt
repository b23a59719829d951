-- The law of contracts that are an equation, `outcome ≡ definition ..`, and a line for each public function: its contract is one.
-- Assumes nothing.
use mathlib.Core.Path.{◌≡◌, sym, ◌∙◌}
use Rattle.answer.specs.Settled.{Agree, SettlesResult}
use Rattle.answer.proofs

pub settled : {O S : Type 0} (seen : O → S) (v : S) → Agree seen (λ (o : O). seen o ≡ v)
settled seen v x y p q = p ∙ sym q

-- the same where a contract says more beside the equation
pub settled_too : {O S : Type 0} (seen : O → S) (v : S) (More : O → Type 0) → Agree seen (λ (o : O). (seen o ≡ v) × More o)
settled_too seen v More x y p q = settled seen v x y p.0 q.0

number_settled : SettlesResult proofs.number.Reads.Post
number_settled l a = settled _ _

place_settled : SettlesResult proofs.place.Reads.Post
place_settled l a = settled _ _
