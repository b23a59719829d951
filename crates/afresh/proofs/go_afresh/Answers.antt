-- `go_afresh` tells the accounts as a round. Assumes nothing.
use Rattle.std.specs.Prelude.{Result, Ok}
use mathlib.Core.Path.{ap, ◌∙◌}
use mathlib.Core.List.{List, map}
use Rattle.answer.specs.declared.Refusal.{Refusal}
use Rattle.road.specs.Reach.{pair_of}
use Rattle.store.specs.Store.{Seat, book_of}
use Rattle.std.proofs.lemmas.Result.{err_from_is_err_and}
use Rattle.ledger.specs.declared.Tally.{Tally}
use Rattle.ledger.specs.Lists.{present}
use Rattle.ledger.specs.Ledger.{first_block}
use Rattle.ledger.proofs.Stops.{stopped, passed}
use Rattle.ledger.proofs.Tallies.{afresh_rounded}
use Rattle.afresh.proofs.go_afresh.Goals as goal

abbrev all : List Tally → Result (List Seat) Refusal
all ts = Ok (map (λ (t : Tally). t.seat) ts)

pub returns-in_err-first_block : goal.returns-in_err-first_block
returns-in_err-first_block c =
    let p = err_from_is_err_and c.from_residual.result c.from_residual.ensures.1 in
    let ts = c.reckon-tallies.result in
    rw (p.1, p.2)
    (stopped (all ts) (first_block 0 ts) _ c.in_err-first_block.ensures
    ∙ afresh_rounded (pair_of c.args.walls.now) (present (book_of c.args.store.now).sources) (book_of c.args.store.now).receivers ts c.reckon-tallies.ensures)

pub returns : goal.returns
returns c =
    let ts = c.reckon-tallies.result in
    ap (λ (l : List Seat). Ok l) c.seats_of.ensures
    ∙ passed (all ts) (first_block 0 ts) c.in_ok-first_block.ensures
    ∙ afresh_rounded (pair_of c.args.walls.now) (present (book_of c.args.store.now).sources) (book_of c.args.store.now).receivers ts c.reckon-tallies.ensures
