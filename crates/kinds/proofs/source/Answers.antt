-- `source` is all zero beside a call that places none.
-- Assumes nothing.
use mathlib.Core.Logic.{⊎_elim}
use mathlib.Core.Path.{◌≡◌, sym, ap, ◌∙◌}
use Rattle.request.specs.Kinds.{kind_at, source_in}
use Rattle.kinds.specs.declared.Kind.{Kind}
use Rattle.kinds.specs.declared.Kind.TheVariants.{PlaceReceiver, WithdrawReceiver, WithdrawSource, Ask, PlaceWall, WithdrawWall}
use Rattle.kinds.specs.Kind.{number_of}
use Rattle.kinds.proofs.source.Goals as goal

pub returns-in-PlaceReceiver : goal.returns-in-PlaceReceiver
unfolding kind_at
returns-in-PlaceReceiver c =
    let v = c.args.v.now in
    let back : (k : Kind) → c.args.kind ≡ k → source_in (number_of k) v ≡ source_in (number_of c.args.kind) v =
    λ k e. ap (λ (j : Kind). source_in (number_of j) v) (sym e) in
    c.blank.ensures
    ∙ ⊎_elim (back PlaceReceiver) (⊎_elim (back WithdrawReceiver) (⊎_elim (back WithdrawSource) (⊎_elim (back Ask) (⊎_elim (back PlaceWall) (back WithdrawWall)))))
    c.in-PlaceReceiver.is
