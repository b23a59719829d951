-- `change_source` goes the round first and writes only if no receiver bars the change and every one can follow it. Assumes nothing.
use mathlib.Core.Path.{◌≡◌, sym, ap, ap₂, ◌∙◌}
use mathlib.Core.List.{List}
use mathlib.Core.Option.{Option, none}
use lib.ListN.{get_or, set}
use Rattle.std.proofs.lemmas.Result.{err_from_is_err_and}
use Rattle.road.specs.declared.Source.{Source}
use Rattle.road.specs.Reach.{pair_of}
use Rattle.road.specs.Pairs.{Pairing}
use Rattle.store.specs.declared.Held.{Held}
use Rattle.store.specs.Store.{Book, book, book_of, book_bytes}
use Rattle.store.proofs.Laws.{sound_book}
use Rattle.ledger.specs.Changes.{Change, exchange}
use Rattle.store.specs.Slots.{entry}
use Rattle.ledger.specs.Ledger.{rounded}
use Rattle.calls.specs.Calls.{pair_in}
use Rattle.calls.proofs.Rounded.{exchange_sound, change_stand, told_barred, told_done}
use Rattle.undamaged.proofs.change_source.Goals as goal
use Rattle.undamaged.proofs.change_source.Goals.{After-go_round}

-- the change that is made, and the book after it
abbrev made : After-go_round → Change
made c = let b = book_of c.args.store.now in exchange (pair_in b) (get_or b.sources c.args.i none) (entry c.args.comes)

abbrev after : After-go_round → List (Option Held) → Book
after c rs = let b = book_of c.args.store.now in book (set b.sources c.args.i (entry c.args.comes)) rs b.walls

-- the round was gone among the walls of the book, and who went is in the slot
among : (c : After-go_round) → c.go_round.result ≡ rounded (made c) (book_of c.args.store.now).receivers
among c =
    c.go_round.ensures
    ∙ ap₂ (λ (pair : Pairing) (goes : Option Source). rounded (exchange pair goes (entry c.args.comes)) (book_of c.args.store.now).receivers)
    (ap pair_of c.standing-walls.ensures) c.requires.2

pub returns-in_err-seats : goal.returns-in_err-seats
returns-in_err-seats c =
    let p = err_from_is_err_and c.from_residual.result c.from_residual.ensures.1 in
    let g = (goal.at.returns-in_err-seats c).After-go_round in
    rw (p.1, p.2) (told_barred c.args.store.now (made g) (after g) _ (sym c.in_err-seats.was ∙ among g))

pub write_seats-requires : goal.write_seats-requires
write_seats-requires c =
    let g = (goal.at.write_seats-requires c).After-go_round in
    let b = book_of c.args.store.now in (
      c.requires.0,
      change_stand (made g) b c.in_ok-seats.seats (sym c.in_ok-seats.was ∙ among g)
          (exchange_sound (pair_in b) (get_or b.sources c.args.i none) (entry c.args.comes)) (sound_book c.args.store.now c.requires.0),
    )

pub returns : goal.returns
returns c =
    let g = (goal.at.returns c).After-go_round in
    told_done c.args.store.now (made g) (after g) c.in_ok-seats.seats _ (sym c.in_ok-seats.was ∙ among g)
    (c.write_source.ensures ∙ ap (λ (b : Book). book_bytes (book (set b.sources c.args.i (entry c.args.comes)) b.receivers b.walls)) c.write_seats.ensures.1)
