-- `perform` hands each call to the inner call of the book; on an undamaged store that is what the book's own call gives. Assumes nothing.
use mathlib.Core.Path.{sym, ap, ◌∙◌}
use Rattle.request.specs.declared.Request.{Request}
use Rattle.calls.specs.Calls.{place_source, withdraw_source, place_receiver, withdraw_receiver, place_wall, withdraw_wall, ask_receiver}
use Rattle.history.specs.History.{perform}
use Rattle.calls.proofs.Entries.{on_sound}
use Rattle.service.specs.Service.{call_of}
use Rattle.service.proofs.perform.Goals as goal

pub returns-in-PlaceReceiver : goal.returns-in-PlaceReceiver
returns-in-PlaceReceiver c =
    c.place_receiver.ensures.0
    ∙ on_sound (place_receiver c.in-PlaceReceiver.slot c.in-PlaceReceiver.r) c.args.store.now c.requires
    ∙ ap (λ (r : Request). perform (call_of r c.args.source) c.args.store.now) (sym c.in-PlaceReceiver.is)

pub returns-in-WithdrawReceiver : goal.returns-in-WithdrawReceiver
returns-in-WithdrawReceiver c =
    c.withdraw_receiver.ensures.0
    ∙ on_sound (withdraw_receiver c.in-WithdrawReceiver.slot) c.args.store.now c.requires
    ∙ ap (λ (r : Request). perform (call_of r c.args.source) c.args.store.now) (sym c.in-WithdrawReceiver.is)

pub returns-in-PlaceSource : goal.returns-in-PlaceSource
returns-in-PlaceSource c =
    c.place_source.ensures.0
    ∙ on_sound (place_source c.in-PlaceSource.slot c.args.source) c.args.store.now c.requires
    ∙ ap (λ (r : Request). perform (call_of r c.args.source) c.args.store.now) (sym c.in-PlaceSource.is)

pub returns-in-WithdrawSource : goal.returns-in-WithdrawSource
returns-in-WithdrawSource c =
    c.withdraw_source.ensures.0
    ∙ on_sound (withdraw_source c.in-WithdrawSource.slot) c.args.store.now c.requires
    ∙ ap (λ (r : Request). perform (call_of r c.args.source) c.args.store.now) (sym c.in-WithdrawSource.is)

pub returns-in-Ask : goal.returns-in-Ask
returns-in-Ask c =
    c.ask.ensures
    ∙ on_sound (ask_receiver c.in-Ask.slot) c.args.store.now c.requires
    ∙ ap (λ (r : Request). perform (call_of r c.args.source) c.args.store.now) (sym c.in-Ask.is)

pub returns-in-PlaceWall : goal.returns-in-PlaceWall
returns-in-PlaceWall c =
    c.place_wall.ensures.0
    ∙ on_sound (place_wall c.in-PlaceWall.slot c.in-PlaceWall.w) c.args.store.now c.requires
    ∙ ap (λ (r : Request). perform (call_of r c.args.source) c.args.store.now) (sym c.in-PlaceWall.is)

pub returns-in-WithdrawWall : goal.returns-in-WithdrawWall
returns-in-WithdrawWall c =
    c.withdraw_wall.ensures.0
    ∙ on_sound (withdraw_wall c.in-WithdrawWall.slot) c.args.store.now c.requires
    ∙ ap (λ (r : Request). perform (call_of r c.args.source) c.args.store.now) (sym c.in-WithdrawWall.is)
