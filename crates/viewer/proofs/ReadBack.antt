-- A caller reads back what was told: number and place, since no place reaches 1024, and the two indices, since none reaches 65535.
-- Assumes nothing.
use Rattle.std.specs.Prelude.{Ok, Some, None}
use Prim.Native.Nat.{ℕ, ◌<◌}
use mathlib.Core.Path.{◌≡◌, refl, sym, ap, subst, ◌∙◌}
use mathlib.Core.Logic.{⊎_elim}
use mathlib.Core.Bool.{Bool, true, false, not}
use mathlib.Core.Option.{Option, none, some}
use mathlib.Core.List.{List}
use native.Mathlib.Omega.{arith}
use lib.Dec.{eqb}
use lib.ListN.{length}
use Rattle.answer.specs.declared.Refusal.{Refusal}
use Rattle.answer.specs.Table.{place_by}
use Rattle.index.specs.Index.{Index}
use Rattle.index.proofs.Laws.{Small}
use Rattle.calls.specs.declared.Reply.TheVariants as answer
use Rattle.calls.specs.Calls.{refusal_in, clear_store}
use Rattle.history.specs.History.{Clear, Ask}
use Rattle.history.proofs.Theorems.{of_this_book}
use Rattle.service.specs.Service.{outcome_refusal, done_to}
use Rattle.service.proofs.Rows.{rows}
use Rattle.viewer.specs.Viewer.{result_of, lastly, unless_refused, cleared, goes_on, barred, applied, word, indices_in, unasked, tell_in, answered, asked, TellsApart, TellsLevels, ReadBack}
use Rattle.viewer.proofs.Laws.{ask_tells, Tells, all_told}

-- ---- number and place

unpacked : (why : Option Refusal) → place_by why < 1024 → TellsApart (result_of why) why
unpacked why h = (omega arith, omega arith)

result_is : (o : Option Refusal) (s t : List ℕ) → (unless_refused o s t).0 ≡ result_of o
result_is none s t = refl
result_is (some why) s t = refl

-- the result of a call that is refused o or not
apart : (o : Option Refusal) (s t : List ℕ) → place_by o < 1024 → TellsApart (unless_refused o s t).0 o
apart o s t h = subst (λ (r : ℕ). TellsApart r o) (sym (result_is o s t)) (unpacked o h)

last_place : (b : Bool) (o : Option Refusal) → place_by o < 512 → place_by (lastly b o) < 1024
last_place true (some why) h = omega (arith, h)
last_place false (some why) h = omega (arith, h)
last_place true none h = omega arith
last_place false none h = omega arith

of_clear : (store : List ℕ) → TellsApart (cleared store).0 (refusal_in (clear_store store).0)
unfolding cleared
of_clear store = apart (refusal_in (clear_store store).0) store (clear_store store).1 (omega (arith, of_this_book.places Clear store))

of_apply : (bytes store : List ℕ) → TellsApart (applied bytes store).0 (barred bytes store)
unfolding applied
of_apply bytes store =
    apart (barred bytes store) store (done_to bytes store).1
    (last_place (goes_on bytes) (outcome_refusal (done_to bytes store).0.outcome) (rows.places bytes store))

of_ask : (slot : ℕ) (store out : List ℕ) → TellsApart (asked slot store out).0 (unasked out (answered slot store))
unfolding asked
of_ask slot store out =
    apart (unasked out (answered slot store)) out _
    (last_place (not (eqb (length out) 4)) (refusal_in (answered slot store)) (of_this_book.places (Ask slot) store))

-- ---- the indices

word_small : (x : Index) → Small x → word x < 65536
word_small None h = omega arith
word_small (Some n) h = omega arith

below_quiet : (x : Index) (n : ℕ) → Small x → x ≡ Some n → n < word None
below_quiet x n h e = let k = subst Small e h in omega (arith, k)

tells_levels : (den night : Index) → Small den → Small night → TellsLevels (indices_in (Ok (answer.Levels den night))) den night
tells_levels den night a b =
    let d = word_small den a in
    let n = word_small night b in
    record { first = omega (arith, d); second = omega (arith, n); not_quiet = λ k. ⊎_elim (below_quiet den k a) (below_quiet night k b) }

levels : (slot : ℕ) (store out : List ℕ) (den night : Index) → length out ≡ 4 → answered slot store ≡ Ok (answer.Levels den night)
    → TellsLevels (asked slot store out).1 den night
unfolding asked
levels slot store out den night l e =
    let t = subst Tells e (ask_tells slot store) in
    subst (λ (o : List ℕ). TellsLevels o den night)
    (ap (λ (o : ℕ × List ℕ). o.1) (all_told den night out l ∙ ap (tell_in out) (sym e)))
    (tells_levels den night t.0 t.1)

pub read_back : ReadBack
read_back = record { of_clear = of_clear; of_apply = of_apply; of_ask = of_ask; levels = levels }
