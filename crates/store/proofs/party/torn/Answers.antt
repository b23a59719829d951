-- `torn` looks for zeros where the mark is not 1; where it is, what may stand decides.
-- Assumes nothing.
use mathlib.Core.Path.{sym, ap, ◌∙◌}
use mathlib.Core.Bool.{not}
use mathlib.Core.List.{List}
use Prim.Native.Nat.{ℕ}
use Rattle.layout.specs.Layout.{size, sized}
use Rattle.store.specs.Slots.{party_layout, slot_by, slot_of, is_torn}
use Rattle.store.proofs.Slots.{fields_fit, torn_unmarked, torn_marked}
use Rattle.store.proofs.Places.{numbers_room, slots_room, mark_first, slot_there, read_there}
use Rattle.store.proofs.party.torn.Goals as goal

pub slots-requires : goal.slots-requires
slots-requires g c = slots_room g.met.P.Slotted.placed

pub numbers-v-requires : goal.numbers-v-requires
numbers-v-requires g c =
    let u = c.slots.ensures in
    let w = g.met.P.Slotted.placed in
    (slots_room w, (numbers_room w, ((ap sized u.form.1 ∙ w.handled, ap size u.form.1 ∙ sym u.form.0), (slot_there w c.args.i _ _ _ u.place.0 u.form.0 c.requires.0 c.requires.1).0)))

pub bounds-v-0 : goal.bounds-v-0
bounds-v-0 g c = mark_first g.met.P.Slotted.placed

pub shared_whole_as_slice-blank : goal.shared_whole_as_slice-blank
shared_whole_as_slice-blank g c = numbers_room g.met.P.Slotted.placed

pub returns-then-unmarked : goal.returns-then-unmarked
unfolding slot_of
returns-then-unmarked g c =
    let q = g.P.Slotted.party in
    let u = c.slots.ensures in
    ap not c.blank.ensures ∙ sym (torn_unmarked q _ c.if-unmarked.true)
    ∙ ap (λ (v : List ℕ). is_torn (slot_by q v)) (c.numbers-v.ensures ∙ read_there g.met.P.Slotted.placed c.args.i _ _ _ c.args.store.now u.place.0 u.form.0 u.form.1)

pub allowed-requires : goal.allowed-requires
allowed-requires g c =
    let q = g.P.Slotted in
    let u = c.slots.ensures in
    let w = g.met.P.Slotted.placed in
    (numbers_room w, fields_fit (party_layout q.party) (q.slot c.args.i c.args.store.now) _ (c.numbers-v.ensures ∙ read_there w c.args.i _ _ _ c.args.store.now u.place.0 u.form.0 u.form.1))

pub returns : goal.returns
unfolding slot_of
returns g c =
    let q = g.P.Slotted.party in
    let u = c.slots.ensures in
    ap not c.allowed.ensures ∙ sym (torn_marked q _ c.if-unmarked.false)
    ∙ ap (λ (v : List ℕ). is_torn (slot_by q v)) (c.numbers-v.ensures ∙ read_there g.met.P.Slotted.placed c.args.i _ _ _ c.args.store.now u.place.0 u.form.0 u.form.1)
