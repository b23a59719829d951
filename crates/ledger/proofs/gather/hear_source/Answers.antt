-- `hear_source` works out the pair of the source in a slot. Assumes nothing.
use Rattle.std.specs.Prelude.{Some}
use mathlib.Core.Path.{sym, ap, ◌∙◌}
use mathlib.Core.Option.{some}
use Rattle.road.specs.Reach.{pair_of}
use Rattle.store.proofs.Laws.{undamaged, source_slot_used, source_slot_free}
use Rattle.ledger.specs.Ledger.{offer_of}
use Rattle.ledger.proofs.gather.hear_source.Goals as goal

pub read-requires : goal.read-requires
read-requires c = (c.requires.1, (undamaged c.args.store.now c.requires.0).0)

pub returns-in_err-s : goal.returns-in_err-s
returns-in_err-s c =
    c.from_residual.ensures
    ∙ ap (offer_of (pair_of c.args.walls.now) c.args.r) (sym (source_slot_free c.args.store.now c.args.i c.requires.0 c.requires.1 (sym c.in_err-s.ensures)))

pub sends-sender-requires : goal.sends-sender-requires
sends-sender-requires c = (source_slot_used c.args.store.now c.args.i c.requires.0 c.requires.1 c.in_ok-s.s (sym c.in_ok-s.ensures)).1.0

pub returns : goal.returns
returns c =
    ap Some c.pair.ensures
    ∙ ap (offer_of (pair_of c.args.walls.now) c.args.r)
    (ap some c.sends-sender.ensures ∙ sym (source_slot_used c.args.store.now c.args.i c.requires.0 c.requires.1 c.in_ok-s.s (sym c.in_ok-s.ensures)).0)
