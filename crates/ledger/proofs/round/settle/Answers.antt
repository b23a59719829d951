-- `settle` writes whoever is in the seat; of nobody the bytes stay. Assumes nothing.
use mathlib.Core.Path.{sym, ap, subst, ◌∙◌}
use mathlib.Core.Option.{some}
use Rattle.store.specs.Store.{Seat, book_of, book_bytes}
use Rattle.store.proofs.Laws.{undamaged, bytes_book, set_held}
use Rattle.ledger.specs.Ledger.{SeatStands, settled}
use Rattle.ledger.proofs.round.settle.Goals as goal

pub put-requires : goal.put-requires
put-requires c =
    record {
      place = (c.requires.1, (undamaged c.args.store.now c.requires.0).0);
      stands = λ x e. subst SeatStands (c.in-Some.is ∙ e) c.requires.2;
    }

pub returns-in-Some : goal.returns-in-Some
returns-in-Some c =
    c.put.ensures
    ∙ set_held c.args.store.now c.args.j (some c.in-Some.x) (λ i. (c.slice_known-1.given i).fits) c.requires.0 c.requires.1
    ∙ ap (λ (t : Seat). book_bytes (settled t c.args.j (book_of c.args.store.now))) (sym c.in-Some.is)

pub returns-in_default : goal.returns-in_default
returns-in_default c =
    sym (bytes_book c.args.store.now (λ i. (c.slice_known-1.given i).fits) c.requires.0)
    ∙ ap (λ (t : Seat). book_bytes (settled t c.args.j (book_of c.args.store.now))) (sym c.in_default.is)
