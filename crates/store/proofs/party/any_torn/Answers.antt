-- `any_torn` looks at each slot.
-- Assumes nothing.
use Rattle.std.proofs.Common.{rules}
use Rattle.std.proofs.lemmas.Iterator.{cases_from_any, YieldsList-from_range}
use Prim.Native.Nat.{ℕ}
use native.Mathlib.Omega.{arith}
use mathlib.Core.Path.{◌≡◌, refl, sym, ap, ◌∙◌}
use mathlib.Core.Bool.{true, false}
use lib.ListN.{drop}
use Rattle.store.specs.Slots.{slot_of, is_torn, slots, any_torn}
use Rattle.store.proofs.Places.{slots_room, slot_found}
use Rattle.store.proofs.Slots.{torn_by}
use Rattle.store.proofs.party.any_torn.Goals as goal

pub slots-requires : goal.slots-requires
slots-requires g c = slots_room g.met.P.Slotted.placed

pub returns : goal.returns
returns g c =
    let q = g.P.Slotted in
    let w = g.met.P.Slotted.placed in
    let s = c.args.store.now in
    let n = c.slots.result.now.count in
    torn_by q.party n (drop q.begin s) (λ k. q.slot k s) (λ k. slot_found w k s) _
    (cases_from_any _ _ _ (λ (k : ℕ). is_torn (slot_of q.party (q.slot k s)) ≡ true) (λ (k : ℕ). is_torn (slot_of q.party (q.slot k s)) ≡ false) c.any.ensures.ran
    (YieldsList-from_range 0 n n refl (omega arith)) (λ x p k. search rules) (λ x p k. search rules))
    ∙ ap (λ (m : ℕ). any_torn (slots q.party m (drop q.begin s))) (c.slots.ensures.place.1 ∙ sym w.many)
