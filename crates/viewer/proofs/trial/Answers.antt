-- `trial` does a record to the same bytes in another place. Assumes nothing.
use Prim.Native.Nat.{ℕ}
use mathlib.Core.Path.{ap, ◌∙◌}
use mathlib.Core.List.{List}
use Rattle.service.specs.declared.Deed.{Deed}
use Rattle.service.specs.Service.{done_to}
use Rattle.service.proofs.Laws.{on_damage}
use Rattle.store.specs.Store.{store_length}
use Rattle.store.proofs.Laws.{wrong_length}
use Rattle.viewer.proofs.trial.Goals as goal

pub returns-then-store-ne-LENGTH : goal.returns-then-store-ne-LENGTH
unfolding store_length
returns-then-store-ne-LENGTH c =
    ap (λ (o : Deed × List ℕ). o.0.outcome) (on_damage c.args.«record».now c.args.store.now (wrong_length c.args.store.now c.if-store-ne-LENGTH.true))

pub returns : goal.returns
returns c =
    ap (λ (o : Deed × List ℕ). o.0.outcome) c.apply-deed.ensures
    ∙ ap (λ (s : List ℕ). (done_to c.args.«record».now s).0.outcome)
    c.copy_from_slice.ensures.after
