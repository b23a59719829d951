-- `decimal` writes the last digits of a number, as many as it has.
use Rattle.std.proofs.Common.{ℕ, List, arith, sym, ap, ◌∙◌}
use Rattle.text.specs.Text.{last_digits}
use Rattle.text.specs.Page.{put_on}
use Rattle.text.proofs.Decimal.{decimal_last, length_count}
use Rattle.text.proofs.Page.decimal.Goals as goal

pub digits-requires-2 : goal.digits-requires-2
digits-requires-2 c = omega (arith, c.digits.ensures, length_count c.args.x c.ranges.x.fits, c.requires)

pub returns : goal.returns
returns c =
    c.digits-2.ensures
    ∙ ap (λ (l : List ℕ). put_on l c.args.self.now)
    (ap (λ (n : ℕ). last_digits n c.args.x) c.digits.ensures ∙ sym (decimal_last c.args.x))
