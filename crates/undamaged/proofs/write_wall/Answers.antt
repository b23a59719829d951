-- `write_wall` leaves the bytes of the book with the slot's new entry. Assumes nothing.
use mathlib.Core.Path.{◌∙◌, subst}
use Rattle.store.specs.Slots.{entry}
use Rattle.store.proofs.Laws.{undamaged, set_wall}
use Rattle.ledger.specs.Ledger.{WallMayStand}
use Rattle.undamaged.proofs.write_wall.Goals as goal

pub put-requires : goal.put-requires
put-requires c =
    record {
      place = (c.requires.1, (undamaged c.args.store.now c.requires.0).0);
      stands = λ x e. subst WallMayStand e c.requires.2;
    }

pub returns : goal.returns
returns c =
    c.put.ensures
    ∙ set_wall c.args.store.now c.args.k (entry c.args.w) (λ k. (c.slice_known-1.given k).fits) c.requires.0 c.requires.1
