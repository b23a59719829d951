-- One record at the front of a job, read and done to a store: what comes of it, for any bytes and any store
-- (METHOD 9: the lowest number that applies is given, so damage comes before what the reader refuses).
use Rattle.std.specs.Prelude.{ℕ, ◌<◌, ◌≡◌, ◌⊎◌, ◌↔◌, false, List, length, Ok, Err, Result}
use Rattle.std.proofs.Math.Option.{Option, none, some}
use Rattle.answer.specs.declared.Refusal.{Refusal}
use Rattle.answer.specs.Table.{number_by, place_by}
use Rattle.road.specs.declared.Source.{Source}
use Rattle.request.specs.declared.Request.{Request}
use Rattle.request.specs.declared.Request.TheVariants as request
use Rattle.request.specs.Record.{Told}
use Rattle.request.specs.Record.{read_of, extent_of}
use Rattle.store.specs.Store.{source_count, damaged}
use Rattle.calls.specs.Calls.{Answer}
use Rattle.calls.specs.declared.Reply.TheVariants as answer
use Rattle.calls.specs.Calls.{refuse, on_store}
use Rattle.calls.specs.Calls as calls
use Rattle.history.specs.History.{Call, PlaceSource, WithdrawSource, PlaceReceiver, WithdrawReceiver, PlaceWall, WithdrawWall, Ask, perform}
use Rattle.service.specs.declared.Report.{Report}
use Rattle.service.specs.declared.Report.TheVariants.{Done, Levels}
use Rattle.service.specs.declared.Deed.{Deed}

-- what comes of a record: done or the two indices, or a refusal
abbrev pub Outcome : Type 0
Outcome = Result Report Refusal

-- ---- number and place of what comes of a record: by its refusal, if it is one

abbrev pub outcome_refusal : Outcome → Option Refusal
outcome_refusal (Ok Done) = none
outcome_refusal (Ok (Levels slot den night)) = none
outcome_refusal (Err why) = some why

abbrev pub outcome_number : Outcome → ℕ
outcome_number o = number_by (outcome_refusal o)

abbrev pub outcome_place : Outcome → ℕ
outcome_place o = place_by (outcome_refusal o)

-- ---- what comes of a record

-- the call of the book that a record asks for
abbrev pub call_of : Request → Source → Call
call_of (request.PlaceReceiver slot r) s = PlaceReceiver slot r
call_of (request.WithdrawReceiver slot) s = WithdrawReceiver slot
call_of (request.PlaceSource slot counts) s = PlaceSource slot s
call_of (request.WithdrawSource slot) s = WithdrawSource slot
call_of (request.Ask slot) s = Ask slot
call_of (request.PlaceWall slot w) s = PlaceWall slot w
call_of (request.WithdrawWall slot) s = WithdrawWall slot

-- its slot
abbrev pub slot_in : Request → ℕ
slot_in (request.PlaceReceiver slot r) = slot
slot_in (request.WithdrawReceiver slot) = slot
slot_in (request.PlaceSource slot counts) = slot
slot_in (request.WithdrawSource slot) = slot
slot_in (request.Ask slot) = slot
slot_in (request.PlaceWall slot w) = slot
slot_in (request.WithdrawWall slot) = slot

-- an answer of the book with the slot that was asked
abbrev pub outcome_of : ℕ → Answer → Outcome
outcome_of slot (Ok answer.Done) = Ok Done
outcome_of slot (Ok (answer.Levels den night)) = Ok (Levels slot den night)
outcome_of slot (Err why) = Err why

-- what a reading comes to on a store: its call is done, or its refusal stands
abbrev pub slot_told : Told → ℕ
slot_told (Ok c) = slot_in c
slot_told (Err why) = 0

abbrev pub answer_told : Told → Source → List ℕ → Answer × List ℕ
answer_told (Ok c) source store = perform (call_of c source) store
answer_told (Err why) source store = on_store (λ book. refuse why) store

abbrev pub deed : Told → ℕ → Answer × List ℕ → Deed × List ℕ
deed t n o = (record { outcome = outcome_of (slot_told t) o.0; extent = n }, o.1)

-- the record at the front of the job: its outcome and how far the next one is, and the store afterwards. Where the job cannot go on, after
-- refusals 2 and 3, that is 0
unfoldable pub done_to : List ℕ → List ℕ → Deed × List ℕ
done_to job store = deed (read_of job).told (extent_of job) (answer_told (read_of job).told (read_of job).source store)

-- ---- what is promised of outcomes

-- the numbers after which a job stops
abbrev pub Stopping : ℕ → Type 0
Stopping n = (n ≡ 2) ⊎ (n ≡ 3)

pub record Rows : Type 0 where
  -- each has the number and the place of the answer that it is made of
  pub same_number : (slot : ℕ) (a : Answer) → outcome_number (outcome_of slot a) ≡ calls.number_in a
  pub same_place : (slot : ℕ) (a : Answer) → outcome_place (outcome_of slot a) ≡ calls.place_in a
  -- a place is a field's number or a slot, and neither is beyond the slots of sources
  pub places : (job store : List ℕ) → outcome_place (done_to job store).0.outcome < source_count
  -- and there is no next record just where the record, on an undamaged store, is refused 2 or 3
  pub stops : (job store : List ℕ) → 0 < length job → damaged store ≡ false
      → ((done_to job store).0.extent ≡ 0) ↔ Stopping (outcome_number (done_to job store).0.outcome)
