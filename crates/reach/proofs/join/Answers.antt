-- `join` by cases, as the definition. Assumes nothing.
use Rattle.std.specs.Prelude.{Err}
use mathlib.Core.Path.{sym, ap, ap₂, subst, ◌∙◌}
use Rattle.road.specs.Pairs.{Mild}
use Rattle.road.specs.Results.{Pair}
use Rattle.road.specs.Inner.{joined}
use Rattle.reach.proofs.join.Goals as goal

pub added-requires : goal.added-requires
added-requires c = (subst Mild c.in-Ok-Ok.is-0 c.requires.0, subst Mild c.in-Ok-Ok.is-1 c.requires.1)

pub returns-in-Ok-Ok : goal.returns-in-Ok-Ok
unfolding joined
returns-in-Ok-Ok c = c.added.ensures ∙ sym (ap₂ joined c.in-Ok-Ok.is-0 c.in-Ok-Ok.is-1)

pub returns-in-Ok-Err : goal.returns-in-Ok-Err
unfolding joined
returns-in-Ok-Err c = sym (ap₂ joined c.in-Ok-Err.is-0 c.in-Ok-Err.is-1)

pub returns-in-Err-Err : goal.returns-in-Err-Err
unfolding joined
returns-in-Err-Err c = ap {B = Pair} Err c.earlier.ensures ∙ sym (ap₂ joined c.in-Err-Err.is-0 c.in-Err-Err.is-1)

pub returns-in-Err-Ok : goal.returns-in-Err-Ok
unfolding joined
returns-in-Err-Ok c = sym (ap₂ joined c.in-Err-Ok.is-0 c.in-Err-Ok.is-1)
