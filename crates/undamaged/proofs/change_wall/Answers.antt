-- `change_wall` works every account out afresh first and writes only if no pair bars the change. Assumes nothing.
use mathlib.Core.Path.{◌≡◌, sym, ap, ◌∙◌}
use mathlib.Core.List.{List}
use mathlib.Core.Option.{Option}
use lib.ListN.{set}
use Rattle.screen.specs.declared.Wall.{Wall}
use Rattle.road.specs.Reach.{pair_of}
use Rattle.store.specs.declared.Held.{Held}
use Rattle.store.specs.Slots.{entry}
use Rattle.store.specs.Store.{Book, book, book_of, book_bytes}
use Rattle.store.proofs.Laws.{many_sources, sound_book}
use Rattle.ledger.specs.Lists.{present}
use Rattle.ledger.specs.Changes.{Change, renewing}
use Rattle.ledger.specs.Ledger.{rounded}
use Rattle.calls.proofs.Rounded.{renewing_sound, change_stand, told_done}
use Rattle.undamaged.proofs.change_wall.Goals as goal
use Rattle.undamaged.proofs.change_wall.Goals.{After-go_afresh}

-- the change that is made, and the book after it
abbrev made : After-go_afresh → Change
made c = let b = book_of c.args.store.now in renewing (pair_of (present (set b.walls c.args.k (entry c.args.w)))) (present b.sources)

abbrev after : After-go_afresh → List (Option Held) → Book
after c rs = let b = book_of c.args.store.now in book b.sources rs (set b.walls c.args.k (entry c.args.w))

-- the round was gone among the walls of the book
among : (c : After-go_afresh) → c.go_afresh.result ≡ rounded (made c) (book_of c.args.store.now).receivers
among c =
    let b = book_of c.args.store.now in
    c.go_afresh.ensures ∙ ap (λ (ws : List Wall). rounded (renewing (pair_of ws) (present b.sources)) b.receivers) c.changed-walls.ensures

pub write_seats-requires : goal.write_seats-requires
write_seats-requires c =
    let g = (goal.at.write_seats-requires c).After-go_afresh in
    let b = book_of c.args.store.now in (
      c.requires.0,
      change_stand (made g) b c.in_ok-seats.seats (sym c.in_ok-seats.was ∙ among g)
          (renewing_sound _ b.sources ((sound_book c.args.store.now c.requires.0).source_slots_lem ∙ sym many_sources)) (sound_book c.args.store.now c.requires.0),
    )

pub returns : goal.returns
returns c =
    let g = (goal.at.returns c).After-go_afresh in
    told_done c.args.store.now (made g) (after g) c.in_ok-seats.seats _ (sym c.in_ok-seats.was ∙ among g)
    (c.write_wall.ensures ∙ ap (λ (b : Book). book_bytes (book b.sources b.receivers (set b.walls c.args.k (entry c.args.w)))) c.write_seats.ensures.1)
