-- `read` looks at the mark, and takes the fields as they stand where it says used.
-- Assumes nothing.
use mathlib.Core.Path.{sym, ◌∙◌}
use native.Mathlib.Omega.{arith}
use Rattle.store.proofs.Places.{slots_room, slot_there, none_there, one_there}
use Rattle.store.proofs.party.read.Goals as goal

pub slots-requires : goal.slots-requires
slots-requires g c = slots_room g.met.P.Slotted.placed

pub marked-requires : goal.marked-requires
marked-requires g c =
    let u = c.slots.ensures in
    let t = slot_there g.met.P.Slotted.placed c.args.i _ _ _ u.place.0 u.form.0 c.requires.0 c.requires.1 in
    (slots_room g.met.P.Slotted.placed, omega (arith, t.0, t.1))

pub returns-then-not-marked : goal.returns-then-not-marked
returns-then-not-marked g c =
    let u = c.slots.ensures in
    none_there g.met.P.Slotted.placed c.args.i _ _ c.args.store.now u.place.0 u.form.0 c.requires.0 c.requires.1 (λ m. (c.type_inv.store m).fits)
    (sym c.marked.ensures ∙ c.if-not-marked.true)

pub returns : goal.returns
returns g c =
    let u = c.slots.ensures in
    one_there g.met.P.Slotted.placed c.args.i _ _ c.args.store.now u.place.0 u.form.0 c.requires.0 c.requires.1 (λ m. (c.type_inv.store m).fits) _
    (sym c.marked.ensures ∙ c.if-not-marked.false) c.described.ensures
