-- `write_source` leaves the bytes of the book with the slot's new entry. Assumes nothing.
use Rattle.std.specs.Prelude.{Option as Maybe, Some, Ok}
use mathlib.Core.Path.{◌≡◌, sym, ap, subst, ◌∙◌}
use mathlib.Core.Option.{none, some}
use lib.ListN.{set}
use Rattle.road.specs.declared.Source.{Source}
use Rattle.road.specs.Results.{Verdict}
use Rattle.road.specs.Judge.{source_verdict}
use Rattle.store.specs.Slots.{entry}
use Rattle.store.specs.Store.{book, book_of, book_bytes}
use Rattle.store.proofs.Laws.{undamaged, set_source}
use Rattle.undamaged.proofs.write_source.Goals as goal

pub put-requires : goal.put-requires
put-requires c =
    record {
      place = (c.requires.1, (undamaged c.args.store.now c.requires.0).0);
      stands = λ x e.
          let same : c.source.result ≡ x = cc in
          subst (λ (s : Source). ◌≡◌ {A = Verdict} (source_verdict s) (Ok tt)) (sym c.source.ensures.0 ∙ same) c.source.ensures.1;
    }

pub put-requires-in-None-clause-place : goal.put-requires-in-None-clause-place
put-requires-in-None-clause-place c = (c.requires.1, (undamaged c.args.store.now c.requires.0).0)

pub returns-in-Some : goal.returns-in-Some
returns-in-Some c =
    let b = book_of c.args.store.now in
    c.put.ensures
    ∙ set_source c.args.store.now c.args.i (some c.source.result) (λ k. (c.slice_known-1.given k).fits) c.requires.0 c.requires.1
    ∙ ap (λ (o : Maybe Source). book_bytes (book (set b.sources c.args.i (entry o)) b.receivers b.walls)) (ap Some c.source.ensures.0 ∙ sym c.in-Some.is)

pub returns-in-None : goal.returns-in-None
returns-in-None c =
    let b = book_of c.args.store.now in
    c.put-in-None.ensures
    ∙ set_source c.args.store.now c.args.i none (λ k. (c.slice_known-1.given k).fits) c.requires.0 c.requires.1
    ∙ ap (λ (o : Maybe Source). book_bytes (book (set b.sources c.args.i (entry o)) b.receivers b.walls)) (sym c.in-None.is)
