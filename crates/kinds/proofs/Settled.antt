-- Each public function of the kinds settles its outcome: one line for each.
-- Assumes nothing.
use mathlib.Core.Path.{sym, ◌∙◌}
use Rattle.answer.specs.Settled.{Settles, SettlesResult}
use Rattle.answer.proofs.Settled.{settled}
use Rattle.kinds.proofs.Laws.{same_number}
use Rattle.kinds.proofs

shape_of_settled : SettlesResult proofs.shape_of.Reads.Post
shape_of_settled l a = settled _ _

call_settled : SettlesResult proofs.call.Reads.Post
call_settled l a = settled _ _

verdict_settled : SettlesResult proofs.verdict.Reads.Post
verdict_settled l a = settled _ _

of_settled : SettlesResult proofs.Kind.of.Reads.Post
of_settled l a = settled _ _

kind_of_settled : SettlesResult proofs.kind_of.Reads.Post
kind_of_settled l a x y p q = same_number x.0 y.0 (p ∙ sym q)

blank_settled : SettlesResult proofs.blank.Reads.Post
blank_settled l a = settled _ _

source_settled : SettlesResult proofs.source.Reads.Post
source_settled l a = settled _ _

fields_of_settled : SettlesResult proofs.fields_of.Reads.Post
fields_of_settled l a = settled _ _

layout_of_settled : Settles (λ l a r e. r.now) proofs.layout_of.Reads.Post
layout_of_settled l a = settled _ _

-- and of any number
shape_of_number_settled : SettlesResult proofs.shape_of_number.Reads.Post
shape_of_number_settled l a = settled _ _

layout_of_number_settled : Settles (λ l a r e. r.now) proofs.layout_of_number.Reads.Post
layout_of_number_settled l a = settled _ _

source_of_number_settled : SettlesResult proofs.source_of_number.Reads.Post
source_of_number_settled l a = settled _ _
