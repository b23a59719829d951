-- `withdraw_source` looks for damage first, then answers as the inner call does. Assumes nothing.
use mathlib.Core.Path.{◌∙◌}
use Rattle.std.proofs.lemmas.Result.{err_from_is_err_and}
use Rattle.calls.specs.Calls.{withdraw_source}
use Rattle.calls.proofs.Entries.{on_damaged, on_sound, whole_is}
use Rattle.book.proofs.withdraw_source.Goals as goal

pub returns-in_err-sound : goal.returns-in_err-sound
returns-in_err-sound c =
    let p = err_from_is_err_and c.from_residual.result c.from_residual.ensures.1 in
    rw (p.1, p.2) (on_damaged (withdraw_source c.args.slot) c.args.store.now _ c.in_err-sound.ensures)

pub withdraw_source-requires : goal.withdraw_source-requires
withdraw_source-requires c = whole_is _ c.in_ok-sound.ensures

pub returns : goal.returns
returns c = c.withdraw_source.ensures.0 ∙ on_sound (withdraw_source c.args.slot) c.args.store.now (whole_is _ c.in_ok-sound.ensures)
