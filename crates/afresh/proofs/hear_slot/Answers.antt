-- `hear_slot` hears the source of a slot, if there is one. Assumes nothing.
use mathlib.Core.Path.{sym, ap, ◌∙◌}
use mathlib.Core.Option.{Option, some}
use Rattle.road.specs.declared.Source.{Source}
use Rattle.road.specs.Reach.{pair_of}
use Rattle.store.proofs.Laws.{undamaged, source_slot_used, source_slot_free}
use Rattle.ledger.specs.Ledger.{heard_at}
use Rattle.afresh.proofs.hear_slot.Goals as goal

pub read-requires : goal.read-requires
read-requires c = (c.requires.1, (undamaged c.args.store.now c.requires.0).0)

pub returns-in_default : goal.returns-in_default
returns-in_default c =
    ap (λ (o : Option Source). heard_at (pair_of c.args.walls.now) o c.args.tallies.now)
    (sym (source_slot_free c.args.store.now c.args.i c.requires.0 c.requires.1 (sym c.in_default.ensures)))

pub sends-sender-requires : goal.sends-sender-requires
sends-sender-requires c = (source_slot_used c.args.store.now c.args.i c.requires.0 c.requires.1 c.in-Some.s (sym c.in-Some.ensures)).1.0

pub hear_all-requires : goal.hear_all-requires
hear_all-requires c = c.requires.2

pub returns : goal.returns
returns c =
    c.hear_all.ensures
    ∙ ap (λ (o : Option Source). heard_at (pair_of c.args.walls.now) o c.args.tallies.now)
    (ap some c.sends-sender.ensures ∙ sym (source_slot_used c.args.store.now c.args.i c.requires.0 c.requires.1 c.in-Some.s (sym c.in-Some.ensures)).0)
