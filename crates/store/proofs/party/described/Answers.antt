-- `described` takes the numbers of slot i as they stand.
-- Assumes nothing.
use mathlib.Core.Path.{sym, ap, ◌∙◌}
use Rattle.layout.specs.Layout.{size, sized}
use Rattle.store.specs.Slots.{party_layout}
use Rattle.store.proofs.Slots.{fields_fit}
use Rattle.store.proofs.Places.{numbers_room, slots_room, slot_there, read_there}
use Rattle.store.proofs.party.described.Goals as goal

pub slots-slots-requires : goal.slots-slots-requires
slots-slots-requires g c = slots_room g.met.P.Slotted.placed

pub numbers-v-requires : goal.numbers-v-requires
numbers-v-requires g c =
    let u = c.slots-slots.ensures in
    let w = g.met.P.Slotted.placed in
    (slots_room w, (numbers_room w, ((ap sized u.form.1 ∙ w.handled, ap size u.form.1 ∙ sym u.form.0), (slot_there w c.args.i _ _ _ u.place.0 u.form.0 c.requires.0 c.requires.1).0)))

pub from_numbers-requires : goal.from_numbers-requires
from_numbers-requires g c =
    let q = g.P.Slotted in
    let u = c.slots-slots.ensures in
    let w = g.met.P.Slotted.placed in
    (numbers_room w, fields_fit (party_layout q.party) (q.slot c.args.i c.args.store.now) _ (c.numbers-v.ensures ∙ read_there w c.args.i _ _ _ c.args.store.now u.place.0 u.form.0 u.form.1))

pub returns : goal.returns
returns g c =
    let u = c.slots-slots.ensures in
    let w = g.met.P.Slotted.placed in
    c.from_numbers.ensures ∙ ap g.P.Slotted.party.from (c.numbers-v.ensures ∙ read_there w c.args.i _ _ _ c.args.store.now u.place.0 u.form.0 u.form.1)
