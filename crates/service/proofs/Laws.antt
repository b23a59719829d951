-- What a reading comes to on a store, with damage and without; and that its call is one that code can make. Assumes nothing.
use Rattle.std.specs.Prelude.{Ok, Err}
use mathlib.Core.Path.{◌≡◌, refl, sym, ap, ap₂, ◌∙◌}
use mathlib.Core.Bool.{Bool, true, false, cond}
use mathlib.Core.List.{List}
use Prim.Native.Nat.{ℕ, ◌≤◌}
use native.Mathlib.Omega.{arith}
use borrow.Author.Tests.{leb-true}
use lib.Dec.{leb}
use lib.ListN.{length}
use Rattle.answer.specs.declared.Refusal.{Refusal}
use Rattle.answer.specs.declared.Refusal.TheVariants.{Damaged}
use Rattle.road.specs.declared.Source.{Source}
use Rattle.request.specs.declared.Request.{Request}
use Rattle.request.specs.declared.Request.TheVariants as request
use Rattle.road.specs.Results.{Verdict}
use Rattle.request.specs.Record.{Told}
use Rattle.request.specs.Record.{length_of, read_of, extent_of}
use Rattle.request.proofs.Trips.{three_periods}
use Rattle.store.specs.Store.{Book, damaged}
use Rattle.calls.specs.Calls.{Answer}
use Rattle.calls.specs.Calls.{refuse, place_source, withdraw_source, place_receiver, withdraw_receiver, place_wall, withdraw_wall, ask_receiver}
use Rattle.history.specs.History.{RealCall, perform}
use Rattle.calls.proofs.Entries.{on_damaged, on_sound, whole}
use Rattle.history.proofs.Theorems.{of_this_book}
use Rattle.service.specs.Service.{Outcome}
use Rattle.service.specs.declared.Deed.{Deed}
use Rattle.service.specs.Service.{call_of, slot_in, outcome_of, answer_told, deed, done_to}

-- the call of a reading is one that code can make
real : (r : Request) (s : Source) → length s.traffic ≡ 3 → RealCall (call_of r s)
real (request.PlaceReceiver slot x) s e = tt
real (request.WithdrawReceiver slot) s e = tt
real (request.PlaceSource slot counts) s e = e
real (request.WithdrawSource slot) s e = tt
real (request.Ask slot) s e = tt
real (request.PlaceWall slot w) s e = tt
real (request.WithdrawWall slot) s e = tt

abbrev at : Outcome → ℕ → Deed
at o n = record { outcome = o; extent = n }

module _ (job store : List ℕ) where
  -- where the store is damaged
  refused_first : damaged store ≡ true → ◌≡◌ {A = Verdict} (Err Damaged) (whole (damaged store))
  refused_first d = sym (ap whole d)

  answer_damaged : (t : Told) (s : Source) → damaged store ≡ true → (Err Damaged, store) ≡ answer_told t s store
  answer_damaged (Err why) s d = on_damaged (λ (b : Book). refuse why) store Damaged (refused_first d)
  answer_damaged (Ok (request.PlaceReceiver j r)) s d = on_damaged (place_receiver j r) store Damaged (refused_first d)
  answer_damaged (Ok (request.WithdrawReceiver j)) s d = on_damaged (withdraw_receiver j) store Damaged (refused_first d)
  answer_damaged (Ok (request.PlaceSource i counts)) s d = on_damaged (place_source i s) store Damaged (refused_first d)
  answer_damaged (Ok (request.WithdrawSource i)) s d = on_damaged (withdraw_source i) store Damaged (refused_first d)
  answer_damaged (Ok (request.Ask j)) s d = on_damaged (ask_receiver j) store Damaged (refused_first d)
  answer_damaged (Ok (request.PlaceWall k w)) s d = on_damaged (place_wall k w) store Damaged (refused_first d)
  answer_damaged (Ok (request.WithdrawWall k)) s d = on_damaged (withdraw_wall k) store Damaged (refused_first d)

  pub on_damage : damaged store ≡ true → deed (Err Damaged) (extent_of job) (Err Damaged, store) ≡ done_to job store
  unfolding done_to
  on_damage d = ap (deed (read_of job).told (extent_of job)) (answer_damaged (read_of job).told (read_of job).source d)

  -- where a call is read
  pub called : (r : Request) (s : Source) (a : Answer) (u : List ℕ) (x : Outcome) (n : ℕ) → (read_of job).told ≡ Ok r → (read_of job).source ≡ s
      → (a, u) ≡ perform (call_of r s) store → x ≡ outcome_of (slot_in r) a → n ≡ extent_of job → (record { outcome = x; extent = n }, u) ≡ done_to job store
  unfolding done_to
  called r s a u x n e f q y z =
      ap₂ (λ (o : Outcome) (m : ℕ). (at o m, u)) y z
      ∙ ap (deed (Ok r) (extent_of job)) (q ∙ ap (λ (v : Source). answer_told (Ok r) v store) (sym f))
      ∙ ap (λ (t : Told). deed t (extent_of job) (answer_told t (read_of job).source store)) (sym e)

  -- and the store stays as it should
  pub called_sound : (r : Request) (s : Source) (u : List ℕ) → (read_of job).source ≡ s → damaged store ≡ false → u ≡ (perform (call_of r s) store).1
      → damaged u ≡ false
  called_sound r s u f d q =
      ap damaged q ∙ of_this_book.stays_sound (call_of r s) (real r s (ap (λ (x : Source). length x.traffic) (sym f) ∙ three_periods job)) store d

  -- where a refusal is read, and the store is sound
  pub unread : (why : Refusal) → (read_of job).told ≡ Err why → damaged store ≡ false
      → deed (Err why) (extent_of job) (Err why, store) ≡ done_to job store
  unfolding done_to
  unread why e d =
      ap (deed (Err why) (extent_of job)) (on_sound (λ (b : Book). refuse why) store d)
      ∙ ap (λ (t : Told). deed t (extent_of job) (answer_told t (read_of job).source store)) (sym e)

-- the next record begins within the job, or where it ends
extent_within : (s : List ℕ) → extent_of s ≤ length s
unfolding extent_of
extent_within s = go (leb (length_of s) (length s)) refl
  where
    go : (b : Bool) → leb (length_of s) (length s) ≡ b → cond b (length_of s) 0 ≤ length s
    go true e = leb-true (length_of s) (length s) e
    go false e = omega arith

-- how far the next record is depends on the record alone
pub goes_by : (job store : List ℕ) → (done_to job store).0.extent ≡ extent_of job
unfolding done_to
goes_by job store = refl

pub goes_within : (job store : List ℕ) → (done_to job store).0.extent ≤ length job
unfolding done_to
goes_within job store = extent_within job

-- ---- an outcome has the number and the place of its answer
