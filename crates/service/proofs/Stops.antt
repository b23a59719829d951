-- A job stops just after refusals 2 and 3: there the next record is 0 bytes on, and the book and the judge of fields give other numbers.
-- Assumes nothing.
use Rattle.std.specs.Prelude.{Ok, Err}
use Prim.Native.Nat.{ℕ, ◌<◌}
use mathlib.Core.Path.{◌≡◌, refl, sym, ap, subst, ◌∙◌}
use mathlib.Core.Logic.{◌⊎◌, ◌↔◌, inl, inr, ⊎_elim}
use mathlib.Core.Bool.{Bool, true, false, ◌||◌}
use mathlib.Core.List.{List}
use native.Mathlib.Omega.{arith}
use borrow.Author.Tests.{ltb-true, eqb-true, eq-eqb, ne_eqb}
use lib.Dec.{ltb, eqb}
use lib.ListN.{length}
use Rattle.answer.specs.declared.Refusal.{Refusal}
use Rattle.answer.specs.declared.Refusal.TheVariants.{CutShort, UnknownKind, Leftover}
use Rattle.answer.specs.Table.{number_of}
use Rattle.road.specs.declared.Source.{Source}
use Rattle.road.specs.Results.{Verdict}
use Rattle.road.proofs.Judged.{ByFields}
use Rattle.store.specs.Store.{Book, damaged}
use Rattle.request.specs.declared.Request.{Request}
use Rattle.request.specs.Record.{Told}
use Rattle.request.specs.declared.Reading.{Reading}
use Rattle.request.specs.Kinds.{call_in, source_in, verdict_of}
use Rattle.request.specs.Record.{kind_of, length_of, values_of, cut_short, unknown_kind, leftover_set, judged, read_of, extent_of}
use Rattle.request.proofs.Laws.{extent_whole, extent_none, uncut, read_cut, read_unknown, read_leftover, read_heard}
use Rattle.request.proofs.Numbers.{verdict_by}
use Rattle.calls.specs.Calls.{Answer}
use Rattle.calls.specs.declared.Reply.TheVariants as answer
use Rattle.calls.specs.Calls.{refuse}
use Rattle.calls.specs.Calls as calls
use Rattle.calls.proofs.Entries.{on_sound}
use Rattle.history.specs.History.{perform, BookNumber}
use Rattle.history.proofs.Theorems.{of_this_book}
use Rattle.service.specs.Service.{call_of, slot_in, slot_told, outcome_of, answer_told, done_to, outcome_number, Stopping}
use Rattle.service.proofs.Laws.{goes_by}

pub same_number : (slot : ℕ) (a : Answer) → outcome_number (outcome_of slot a) ≡ calls.number_in a
same_number slot (Ok answer.Done) = refl
same_number slot (Ok (answer.Levels den night)) = refl
same_number slot (Err why) = refl

-- a number that is neither 2 nor 3
abbrev Apart : ℕ → Type 0
Apart n = (n < 2) ⊎ (3 < n)

apart : {A : Type 0} (n : ℕ) → Apart n → Stopping n → A
apart n a s = absurd (⊎_elim (λ h. ⊎_elim (λ e. omega (arith, h, e)) (λ e. omega (arith, h, e)) s) (λ h. ⊎_elim (λ e. omega (arith, h, e)) (λ e. omega (arith, h, e)) s) a)

book_apart : (n : ℕ) → BookNumber n → Apart n
book_apart n b = ⊎_elim (λ e. inl (omega (arith, e))) (λ c. ⊎_elim (λ e. inl (omega (arith, e))) (λ r. inr (omega (arith, r.0.0))) c) b

second : (a b : Bool) → a || b ≡ true → a ≡ false → b ≡ true
second true b e f = absurd (let z : ◌≡◌ {A = ℕ} 0 1 = cc in omega arith)
second false b e f = e

module _ (s store : List ℕ) (d : damaged store ≡ false) where
  number : ℕ
  number = outcome_number (done_to s store).0.outcome

  -- where a refusal is read, the number is its
  refused_number : (why : Refusal) → (read_of s).told ≡ Err why → number ≡ number_of why
  unfolding number done_to
  refused_number why e =
      ap (λ (t : Told). outcome_number (outcome_of (slot_told t) (answer_told t (read_of s).source store).0)) e
      ∙ ap (λ (o : Answer × List ℕ). outcome_number (outcome_of 0 o.0)) (sym (on_sound (λ (b : Book). refuse why) store d))

  -- where a call is read, the number is the book's
  called_number : (c : Request) → (read_of s).told ≡ Ok c → Apart number
  unfolding number done_to
  called_number c e =
      subst Apart
      (sym
      (ap (λ (t : Told). outcome_number (outcome_of (slot_told t) (answer_told t (read_of s).source store).0)) e
      ∙ same_number (slot_in c) (perform (call_of c (read_of s).source) store).0))
      (book_apart _ (of_this_book.numbers (call_of c (read_of s).source) store))

  -- by what the judge of its fields says
  judged_number : (v : Verdict) (c : Request) (q : Source) → ByFields v → judged v c q ≡ read_of s → Apart number
  judged_number (Ok tt) c q b e = called_number c (sym (ap (λ (r : Reading). r.told) e))
  judged_number (Err why) c q b e = inr (omega (arith, b.0, refused_number why (sym (ap (λ (r : Reading). r.told) e))))

  module _ (h : 0 < length s) where
    stops_so : extent_of s ≡ 0 → Stopping number
    stops_so z = go (cut_short s) refl
      where
        go : (b : Bool) → cut_short s ≡ b → Stopping number
        go true e = inl (refused_number CutShort (sym (ap (λ (r : Reading). r.told) (read_cut s e))))
        go false e =
            let k : length_of s ≡ 0 = extent_whole s (uncut s e) ∙ z in
            inr (refused_number UnknownKind (sym (ap (λ (r : Reading). r.told) (read_unknown s e (eq-eqb (length_of s) 0 k)))))

    -- a record that is whole and of a listed kind has another number
    whole_number : cut_short s ≡ false → unknown_kind s ≡ false → Apart number
    whole_number e f = go (leftover_set s) refl
      where
        go : (b : Bool) → leftover_set s ≡ b → Apart number
        go true l = inr (omega (arith, refused_number Leftover (sym (ap (λ (r : Reading). r.told) (read_leftover s e f l)))))
        go false l =
            let c = call_in (kind_of s) (values_of s) in
            let q = source_in (kind_of s) (values_of s) in
            judged_number (verdict_of c q) c q (verdict_by c q) (read_heard s e f l)

    stops_only : Stopping number → extent_of s ≡ 0
    stops_only n = go (cut_short s) refl
      where
        go : (b : Bool) → cut_short s ≡ b → extent_of s ≡ 0
        go true e = sym (extent_none s (ltb-true (length s) (length_of s) (second (eqb (length s) 0) (ltb (length s) (length_of s)) e (ne_eqb (length s) 0 (λ y. omega arith)))))
        go false e = on (unknown_kind s) refl
          where
            on : (b : Bool) → unknown_kind s ≡ b → extent_of s ≡ 0
            on true f = sym (extent_whole s (uncut s e)) ∙ eqb-true (length_of s) 0 f
            on false f = apart number (whole_number e f) n

pub stops : (job store : List ℕ) → 0 < length job → damaged store ≡ false
    → ((done_to job store).0.extent ≡ 0) ↔ Stopping (outcome_number (done_to job store).0.outcome)
unfolding number
stops job store h d = (
  λ e. stops_so job store d h (sym (goes_by job store) ∙ e),
  λ n. goes_by job store ∙ stops_only job store d h n,
)
