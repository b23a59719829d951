-- `serve` reads the record and does its call to the store, which stays undamaged. Assumes nothing.
use Rattle.std.specs.Prelude.{Ok, Err}
use mathlib.Core.Path.{◌≡◌, sym, ap, ◌∙◌}
use mathlib.Core.List.{List}
use Prim.Native.Nat.{ℕ}
use Rattle.request.specs.declared.Reading.{Reading}
use Rattle.calls.specs.Calls.{Answer}
use Rattle.request.specs.Record.{read_of}
use Rattle.service.specs.Service.{outcome_of, deed}
use Rattle.service.proofs.Laws.{called, called_sound, unread}
use Rattle.service.proofs.serve.Goals as goal

pub returns-in-Err : goal.returns-in-Err
returns-in-Err c =
    let e : (read_of c.args.job.now).told ≡ Err c.in-Err.why = sym (ap (λ (x : Reading). x.told) c.read-reading.ensures) ∙ c.in-Err.is in (
      ap (λ (n : ℕ). deed (Err c.in-Err.why) n (Err c.in-Err.why, c.args.store.now)) c.extent-extent.ensures ∙ unread c.args.job.now c.args.store.now c.in-Err.why e c.requires,
      c.requires,
    )

pub returns-in-Ok : goal.returns-in-Ok
returns-in-Ok c =
    let e : (read_of c.args.job.now).told ≡ Ok c.in-Ok.call = sym (ap (λ (x : Reading). x.told) c.read-reading.ensures) ∙ c.in-Ok.is in
    let f : (read_of c.args.job.now).source ≡ c.read-reading.result.source = sym (ap (λ (x : Reading). x.source) c.read-reading.ensures) in (
      called c.args.job.now c.args.store.now c.in-Ok.call c.read-reading.result.source c.perform-answer.result _ _ _ e f c.perform-answer.ensures
          (c.of_slot.ensures ∙ ap (λ (k : ℕ). outcome_of k c.perform-answer.result) c.slot.ensures)
          c.extent-extent.ensures,
      called_sound c.args.job.now c.args.store.now c.in-Ok.call c.read-reading.result.source _ f c.requires (ap (λ (o : Answer × List ℕ). o.1) c.perform-answer.ensures),
    )
