-- What a call answers by the verdicts on its slot and its fields, the slot's first, and by who is in the slot. Assumes nothing.
use Rattle.std.specs.Prelude.{Option as Maybe, None, Some, Ok, Err}
use Rattle.std.specs.Option.{ok_or, is_some}
use mathlib.Core.Path.{◌≡◌, sym, ap, ◌∙◌}
use mathlib.Core.Bool.{true, false}
use mathlib.Core.Option.{Option, some}
use mathlib.Core.List.{List}
use Prim.Native.Nat.{ℕ}
use Rattle.answer.specs.declared.Refusal.{Refusal}
use Rattle.answer.specs.declared.Refusal.TheVariants.{Vacant}
use Rattle.road.specs.Results.{Verdict}
use Rattle.road.specs.Judge.{slot_verdict}
use Rattle.road.proofs.Judged.{slot_after, first_allows, first_refuses}
use Rattle.store.specs.Slots.{entry}
use Rattle.ledger.proofs.Rounds.{false_true}
use Rattle.calls.specs.Calls.{Answer, Step, told, allow, from_used}
use Rattle.calls.proofs.Sums.{never}

module _ (s : List ℕ) (most i : ℕ) (v : Verdict) (k : Step) where
  abbrev by : Verdict → Answer × List ℕ
  by w = told s (allow w k)

  pub slot_refused : (why : Refusal) → ◌≡◌ {A = Verdict} (Err why) (slot_verdict most i (Ok tt)) → (Err why, s) ≡ told s (allow (slot_verdict most i v) k)
  slot_refused why e = ap by (sym (first_refuses (slot_verdict most i (Ok tt)) v (slot_verdict most i v) why (slot_after most i v) (sym e)))

  pub fields_refused : ◌≡◌ {A = Verdict} (Ok tt) (slot_verdict most i (Ok tt)) → (why : Refusal) → ◌≡◌ {A = Verdict} (Err why) v
      → (Err why, s) ≡ told s (allow (slot_verdict most i v) k)
  fields_refused e why f = ap by (f ∙ sym (first_allows (slot_verdict most i (Ok tt)) v (slot_verdict most i v) (slot_after most i v) (sym e)))

-- all is allowed, and the slot that the call goes on with is the one that was judged
pub all_allowed : (s : List ℕ) (most i : ℕ) (v : Verdict) (k : ℕ → Step) (n : ℕ) → n ≡ i → ◌≡◌ {A = Verdict} (Ok tt) (slot_verdict most i (Ok tt)) → ◌≡◌ {A = Verdict} (Ok tt) v
    → told s (k n) ≡ told s (allow (slot_verdict most i v) (k i))
all_allowed s most i v k n j e f =
    ap (λ (m : ℕ). told s (k m)) j
    ∙ ap (by s most i v (k i)) (f ∙ sym (first_allows (slot_verdict most i (Ok tt)) v (slot_verdict most i v) (slot_after most i v) (sym e)))

-- ---- a slot that has to be used: who was found in it, or nobody

module _ {A : Type 0} (s : List ℕ) (o : Option A) (k : A → Step) where
  pub found_free : (t : Maybe A) (why : Refusal) → o ≡ entry t → Err why ≡ ok_or t Vacant → (Err why, s) ≡ told s (from_used o k)
  found_free None why e f =
      let q : why ≡ Vacant = cc in
      ap (λ (r : Refusal). (Err r, s)) q ∙ ap (λ (p : Option A). told s (from_used p k)) (sym e)
  found_free (Some a) why e f = never cc

  pub found_used : (t : Maybe A) (a : A) → o ≡ entry t → Ok a ≡ ok_or t Vacant → (o ≡ some a) × (told s (k a) ≡ told s (from_used o k))
  found_used None a e f = never cc
  found_used (Some b) a e f =
      let q : b ≡ a = cc in
      let u : o ≡ some a = e ∙ ap some q in
      (u, ap (λ (p : Option A). told s (from_used p k)) (sym u))

  pub is_free : (t : Maybe A) → o ≡ entry t → is_some t ≡ false → (Err Vacant, s) ≡ told s (from_used o k)
  is_free None e f = ap (λ (p : Option A). told s (from_used p k)) (sym e)
  is_free (Some a) e f = absurd (false_true (sym f))

  pub is_used : (u : Step) (t : Maybe A) → o ≡ entry t → is_some t ≡ true → ((a : A) → k a ≡ u) → told s u ≡ told s (from_used o k)
  is_used u None e f h = absurd (false_true f)
  is_used u (Some a) e f h = ap (told s) (sym (h a)) ∙ ap (λ (p : Option A). told s (from_used p k)) (sym e)
