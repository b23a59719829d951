-- `first_block` looks at one receiver after the other. Assumes nothing.
use Rattle.std.specs.Prelude.{Ok, Err}
use mathlib.Core.Path.{sym, ap, ◌∙◌}
use mathlib.Core.Option.{Option}
use native.Mathlib.Omega.{arith}
use Rattle.answer.specs.declared.Refusal.{Refusal}
use Rattle.road.specs.Results.{Verdict}
use Rattle.ledger.specs.Ledger.{unless_stopped}
use Rattle.ledger.proofs.Tallies.{block_next, block_here, block_over}
use Rattle.afresh.proofs.first_block.Goals as goal

-- by where it is stopped
abbrev by_stop : Option Refusal → Verdict
by_stop o = unless_stopped o (Ok tt)

pub returns-in-Some : goal.returns-in-Some
returns-in-Some c =
    ap Err c.bar_at.ensures
    ∙ sym (ap by_stop (block_here c.args.tallies.now c.loop-j.j (omega (arith, c.loop-j-test.true, c.requires)) c.loop-j.invariant c.in-Some.why c.in-Some.is))

pub loop-j-preserved : goal.loop-j-preserved
loop-j-preserved c =
    block_next c.args.tallies.now c.loop-j.j (omega (arith, c.loop-j-test.true, c.requires)) c.loop-j.invariant c.in_default.is

pub returns : goal.returns
returns c = sym (ap by_stop (block_over c.args.tallies.now c.loop-j.j (omega (arith, c.loop-j-test.false, c.requires)) c.loop-j.invariant))
