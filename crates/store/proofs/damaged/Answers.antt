-- `damaged` looks at the length, then at the source slots, the receiver slots and the wall slots.
-- Assumes nothing.
use mathlib.Core.Path.{refl, sym, ◌∙◌}
use mathlib.Core.Bool.{true, false, true≢false}
use lib.ListN.{drop}
use Rattle.store.specs.Slots.{found, any_torn}
use Rattle.store.specs.Store.{store_length, split, walls_begin, held_party, wall_party}
use Rattle.store.proofs.Laws.{wrong_length, torn_damage}
use Rattle.store.proofs.damaged.Goals as goal
use Rattle.store.proofs.damaged.Goals.{then-any_torn, else-any_torn}

pub returns-then-store-ne-LENGTH : goal.returns-then-store-ne-LENGTH
unfolding store_length
returns-then-store-ne-LENGTH c = sym (wrong_length _ c.if-store-ne-LENGTH.true)

pub any_torn-requires : goal.any_torn-requires
unfolding store_length
any_torn-requires c = c.if-store-ne-LENGTH.false

pub any_torn-requires-else-any_torn : goal.any_torn-requires-else-any_torn
unfolding store_length
any_torn-requires-else-any_torn c = c.if-store-ne-LENGTH.false

pub any_torn-requires-else-any_torn-2 : goal.any_torn-requires-else-any_torn-2
unfolding store_length
any_torn-requires-else-any_torn-2 c = c.if-store-ne-LENGTH.false

pub returns-then-any_torn-2 : goal.returns-then-any_torn-2
unfolding store_length
returns-then-any_torn-2 c =
    let s = c.args.store.now in
    let h = any_torn (found held_party (drop split s)) in
    let k = any_torn (found wall_party (drop walls_begin s)) in
    elim c.if-any_torn.branch [
      | then-any_torn w ↦
          c.if-any_torn-2.true ∙ sym (torn_damage s true h k c.if-store-ne-LENGTH.false (sym c.any_torn.ensures ∙ w.if-any_torn.true) refl refl)
      | else-any_torn w ↦
          c.if-any_torn-2.true
          ∙ sym (torn_damage s false true k c.if-store-ne-LENGTH.false (sym c.any_torn.ensures ∙ w.if-any_torn.false) (sym w.any_torn-else-any_torn.ensures ∙ sym w.value-is ∙ c.if-any_torn-2.true) refl)
    ]

pub returns-else-any_torn-2 : goal.returns-else-any_torn-2
unfolding store_length
returns-else-any_torn-2 c =
    let s = c.args.store.now in
    elim c.if-any_torn.branch [
      | then-any_torn w ↦ absurd (true≢false (sym w.if-any_torn.true ∙ sym w.value-is ∙ c.if-any_torn-2.false))
      | else-any_torn w ↦
          c.any_torn-else-any_torn-2.ensures
          ∙ sym (torn_damage s false false _ c.if-store-ne-LENGTH.false (sym c.any_torn.ensures ∙ w.if-any_torn.false) (sym w.any_torn-else-any_torn.ensures ∙ sym w.value-is ∙ c.if-any_torn-2.false) refl)
    ]
