-- `place_wall` looks for damage first, then answers as the inner call does. Assumes nothing.
use mathlib.Core.Path.{◌∙◌}
use Rattle.std.proofs.lemmas.Result.{err_from_is_err_and}
use Rattle.calls.specs.Calls.{place_wall}
use Rattle.calls.proofs.Entries.{on_damaged, on_sound, whole_is}
use Rattle.book.proofs.place_wall.Goals as goal

pub returns-in_err-sound : goal.returns-in_err-sound
returns-in_err-sound c =
    let p = err_from_is_err_and c.from_residual.result c.from_residual.ensures.1 in
    rw (p.1, p.2) (on_damaged (place_wall c.args.slot c.args.w) c.args.store.now _ c.in_err-sound.ensures)

pub place_wall-requires : goal.place_wall-requires
place_wall-requires c = whole_is _ c.in_ok-sound.ensures

pub returns : goal.returns
returns c = c.place_wall.ensures.0 ∙ on_sound (place_wall c.args.slot c.args.w) c.args.store.now (whole_is _ c.in_ok-sound.ensures)
