-- Each public function of the listing, and of `text` below it, settles its outcome, where it ends and what is written: one line for each.
-- Assumes nothing.
use mathlib.Core.Path.{◌≡◌, sym, ap, ◌∙◌}
use Rattle.answer.specs.Settled.{Agree, SettlesBoth}
use Rattle.answer.proofs.Settled.{settled}
use Rattle.text.specs.declared.Page.{Page}
use Rattle.text.proofs as text
use Rattle.listing.proofs

ask_line_settled : SettlesBoth (λ l a e. e.1.1.1.1.0.now) proofs.ask_line.Reads.Post
ask_line_settled l a = settled _ _

refusal_line_settled : SettlesBoth (λ l a e. e.1.1.0.now) proofs.refusal_line.Reads.Post
refusal_line_settled l a = settled _ _

end_line_settled : SettlesBoth (λ l a e. e.1.0.now) proofs.end_line.Reads.Post
end_line_settled l a = settled _ _

line_settled : SettlesBoth (λ l a e. e.1.1.0.now) proofs.line.Reads.Post
line_settled l a = settled _ _

-- what a method gives back is nothing, so the page that it leaves is all that there is to see
page_settled : {O : Type 0} (given : O → Unit) (left : O → Page) (p : Page) → Agree {S = Unit × Page} (λ (o : O). (given o, left o)) (λ (o : O). left o ≡ p)
page_settled given left p x y a b = ap {B = Unit × Page} (λ (q : Page). (tt, q)) (a ∙ sym b)

text_settled : SettlesBoth (λ l a e. e.0.now) text.Page.text.Reads.Post
text_settled l a = page_settled _ _ _

byte_settled : SettlesBoth (λ l a e. e.0.now) text.Page.byte.Reads.Post
byte_settled l a = page_settled _ _ _

digits_settled : SettlesBoth (λ l a e. e.0.now) text.Page.digits.Reads.Post
digits_settled l a = page_settled _ _ _

decimal_settled : SettlesBoth (λ l a e. e.0.now) text.Page.decimal.Reads.Post
decimal_settled l a = page_settled _ _ _
