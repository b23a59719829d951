-- `standing` changes a slot that is none of the book's. Assumes nothing.
use mathlib.Core.Path.{ap, ◌∙◌}
use native.Mathlib.Omega.{arith}
use mathlib.Core.Option.{none}
use lib.Seq.{set_out}
use Rattle.store.specs.Store.{book_of}
use Rattle.store.proofs.Laws.{sound_book}
use Rattle.ledger.specs.Lists.{present}
use Rattle.ledger.proofs.fences.standing.Goals as goal

pub returns : goal.returns
returns c =
    let b = book_of c.args.store.now in
    c.changed.ensures ∙ ap present (set_out b.walls 64 none (omega (arith, (sound_book c.args.store.now c.requires).wall_slots_lem)))
