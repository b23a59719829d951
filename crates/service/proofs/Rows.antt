-- What is promised of outcomes: number and place are the answer's, a place is below the slots of sources, and a job stops just after 2 and 3.
-- Assumes nothing.
use Rattle.std.specs.Prelude.{Ok, Err}
use Prim.Native.Nat.{ℕ, ◌<◌}
use mathlib.Core.Path.{◌≡◌, refl, sym, subst}
use mathlib.Core.Bool.{Bool, true, false, cond}
use mathlib.Core.List.{List}
use native.Mathlib.Omega.{arith}
use Rattle.answer.specs.declared.Refusal.{Refusal}
use Rattle.answer.specs.declared.Refusal.TheVariants.{Damaged}
use Rattle.answer.specs.Table.{place_of}
use Rattle.road.specs.declared.Source.{Source}
use Rattle.store.specs.Store.{source_count, Book, damaged}
use Rattle.request.specs.Record.{Told}
use Rattle.request.specs.Record.{read_of, place_told}
use Rattle.request.proofs.Numbers.{read_low}
use Rattle.calls.specs.Calls.{Answer}
use Rattle.calls.specs.declared.Reply.TheVariants as answer
use Rattle.calls.specs.Calls.{refuse, on_store}
use Rattle.calls.specs.Calls as calls
use Rattle.history.proofs.Theorems.{of_this_book}
use Rattle.service.specs.Service.{call_of, slot_told, outcome_of, answer_told, done_to, outcome_place, Rows}
use Rattle.service.proofs.Stops.{same_number, stops}

same_place : (slot : ℕ) (a : Answer) → outcome_place (outcome_of slot a) ≡ calls.place_in a
same_place slot (Ok answer.Done) = refl
same_place slot (Ok (answer.Levels den night)) = refl
same_place slot (Err why) = refl

refused_place : (why : Refusal) (s : List ℕ) → place_of why < source_count → calls.place_in (on_store (λ (b : Book). refuse why) s).0 < source_count
unfolding on_store
refused_place why s h = go (damaged s)
  where
    go : (t : Bool) → calls.place_in (cond {A = Answer × List ℕ} t (Err Damaged, s) (Err why, s)).0 < source_count
    go true = omega arith
    go false = h

told_place : (t : Told) (x : Source) (s : List ℕ) → place_told t < 32 → calls.place_in (answer_told t x s).0 < source_count
told_place (Ok c) x s h = of_this_book.places (call_of c x) s
told_place (Err why) x s h = refused_place why s (omega (arith, h))

places : (job store : List ℕ) → outcome_place (done_to job store).0.outcome < source_count
unfolding done_to
places job store =
    subst (λ (n : ℕ). n < source_count) (sym (same_place (slot_told (read_of job).told) (answer_told (read_of job).told (read_of job).source store).0))
    (told_place (read_of job).told (read_of job).source store (read_low job))

pub rows : Rows
rows = record { same_number = same_number; same_place = same_place; places = places; stops = stops }
