-- `fed` goes on by what is read so far.
-- Assumes nothing.
use mathlib.Core.Path.{sym, ap, ◌∙◌}
use Rattle.longhand.specs.declared.reading.Reading.{Reading}
use Rattle.longhand.specs.Reading.{fed_by}
use Rattle.longhand.proofs.reading.fed.Goals as goal

pub returns-in-Nothing : goal.returns-in-Nothing
unfolding fed_by
returns-in-Nothing c =
    c.with_digit.ensures ∙ ap (λ (r : Reading). fed_by r c.args.byte) (sym c.in-Nothing.is)

pub returns-in-Number : goal.returns-in-Number
unfolding fed_by
returns-in-Number c =
    c.with_digit-in-Number.ensures ∙ ap (λ (r : Reading). fed_by r c.args.byte) (sym c.in-Number.is)

pub returns-in-Wrong : goal.returns-in-Wrong
unfolding fed_by
returns-in-Wrong c = ap (λ (r : Reading). fed_by r c.args.byte) (sym c.in-Wrong.is)
