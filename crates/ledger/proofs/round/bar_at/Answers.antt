-- `bar_at` names the refusal of a bar. Assumes nothing.
use mathlib.Core.Path.{sym, ap}
use Rattle.ledger.specs.Lists.{bar_at}
use Rattle.ledger.proofs.round.bar_at.Goals as goal

pub returns-in-Near : goal.returns-in-Near
returns-in-Near c = ap (bar_at c.args.slot) (sym c.in-Near.is)

pub returns-in-Far : goal.returns-in-Far
returns-in-Far c = ap (bar_at c.args.slot) (sym c.in-Far.is)

pub returns-in-Long : goal.returns-in-Long
returns-in-Long c = ap (bar_at c.args.slot) (sym c.in-Long.is)

pub returns-in-Loud : goal.returns-in-Loud
returns-in-Loud c = ap (bar_at c.args.slot) (sym c.in-Loud.is)

pub returns-in-Walls : goal.returns-in-Walls
returns-in-Walls c = ap (bar_at c.args.slot) (sym c.in-Walls.is)
