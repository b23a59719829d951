-- `put` writes the mark and the fields into the bytes of slot i, or zeros.
-- Assumes nothing.
use Rattle.std.specs.Prelude.{Option as RustOption}
use mathlib.Core.Path.{sym, ap, ◌∙◌, subst}
use mathlib.Core.List.{List}
use Prim.Native.Nat.{ℕ}
use lib.ListN.{replicate}
use Rattle.layout.specs.Layout.{size, sized, packed, Within}
use Rattle.layout.specs.Over.{over}
use Rattle.layout.proofs.Laws.{packed_zeros}
use Rattle.store.specs.Slots.{party_layout, slot_bytes, entry}
use Rattle.store.proofs.Slots.{zeros_within}
use Rattle.store.proofs.Places.{numbers_room, slots_room, slot_there, written_there}
use Rattle.store.proofs.party.put.Goals as goal

pub slots-slots-requires : goal.slots-slots-requires
slots-slots-requires g c = slots_room g.met.P.Slotted.placed

pub numbers-requires : goal.numbers-requires
numbers-requires g c = (numbers_room g.met.P.Slotted.placed, c.requires.stands c.in-Some.x c.in-Some.is)

pub put-requires : goal.put-requires
put-requires g c =
    let u = c.slots-slots.ensures in
    let w = g.met.P.Slotted.placed in (
      slots_room w,
      (
        numbers_room w,
        (
          (ap sized u.form.1 ∙ w.handled, ap size u.form.1 ∙ sym u.form.0),
          (
            (slot_there w c.args.i _ _ _ u.place.0 u.form.0 c.requires.place.0 c.requires.place.1).0,
            subst (λ (t : List ℕ). Within t c.numbers.result) (sym u.form.1) c.numbers.ensures.1,
          ),
        ),
      ),
    )

pub put-requires-in-None : goal.put-requires-in-None
put-requires-in-None g c =
    let l = party_layout g.P.Slotted.party in
    let u = c.slots-slots.ensures in
    let w = g.met.P.Slotted.placed in (
      slots_room w,
      (
        numbers_room w,
        (
          (ap sized u.form.1 ∙ w.handled, ap size u.form.1 ∙ sym u.form.0),
          (
            (slot_there w c.args.i _ _ _ u.place.0 u.form.0 c.requires.place.0 c.requires.place.1).0,
            subst (λ (t : List ℕ). Within t (replicate g.row.N 0)) (sym u.form.1) (subst (λ (n : ℕ). Within l (replicate n 0)) w.numbers (zeros_within l)),
          ),
        ),
      ),
    )

pub returns-in-Some : goal.returns-in-Some
unfolding slot_bytes
returns-in-Some g c =
    let q = g.P.Slotted in
    let s = c.args.store.now in
    let u = c.slots-slots.ensures in
    c.put.ensures ∙ written_there g.met.P.Slotted.placed c.args.i _ _ _ c.numbers.result s u.place.0 u.form.0 u.form.1
    ∙ ap (λ (v : List ℕ). over (q.place c.args.i) (packed (party_layout q.party) v) s) c.numbers.ensures.0
    ∙ ap (λ (o : RustOption g.row.P.Denot). over (q.place c.args.i) (slot_bytes q.party (entry o)) s) (sym c.in-Some.is)

pub returns-in-None : goal.returns-in-None
unfolding slot_bytes
returns-in-None g c =
    let q = g.P.Slotted in
    let l = party_layout q.party in
    let s = c.args.store.now in
    let u = c.slots-slots.ensures in
    c.put-in-None.ensures ∙ written_there g.met.P.Slotted.placed c.args.i _ _ _ (replicate g.row.N 0) s u.place.0 u.form.0 u.form.1
    ∙ ap (λ (n : ℕ). over (q.place c.args.i) (packed l (replicate n 0)) s) (sym g.met.P.Slotted.placed.numbers)
    ∙ ap (λ (t : List ℕ). over (q.place c.args.i) t s) (packed_zeros l)
    ∙ ap (λ (o : RustOption g.row.P.Denot). over (q.place c.args.i) (slot_bytes q.party (entry o)) s) (sym c.in-None.is)
