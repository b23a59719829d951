-- How an answer follows from damage, which is looked for before all else.
-- Assumes nothing.
use Rattle.std.specs.Prelude.{Ok, Err}
use mathlib.Core.Path.{◌≡◌, refl, sym, ap}
use mathlib.Core.Bool.{Bool, true, false, cond}
use mathlib.Core.List.{List}
use Prim.Native.Nat.{ℕ}
use Rattle.answer.specs.declared.Refusal.{Refusal}
use Rattle.answer.specs.declared.Refusal.TheVariants.{Damaged}
use Rattle.road.specs.Results.{Verdict}
use Rattle.store.specs.Store.{Book, damaged, book_of}
use Rattle.calls.specs.Calls.{Answer, Step, told, on_store}
use Rattle.calls.proofs.Sums.{never}

-- the verdict on damage
abbrev pub whole : Bool → Verdict
whole b = cond b (Err Damaged) (Ok tt)

pub whole_is : (b : Bool) → ◌≡◌ {A = Verdict} (Ok tt) (whole b) → b ≡ false
whole_is true e = never cc
whole_is false e = refl

module _ (f : Book → Step) (s : List ℕ) where
  by : Bool → Answer × List ℕ
  by b = cond b (Err Damaged, s) (told s (f (book_of s)))

  refused : (b : Bool) (why : Refusal) → ◌≡◌ {A = Verdict} (Err why) (whole b) → (Err why, s) ≡ by b
  unfolding by
  refused true why e = let k : why ≡ Damaged = cc in ap (λ (r : Refusal). (Err r, s)) k
  refused false why e = never cc

  pub on_damaged : (why : Refusal) → ◌≡◌ {A = Verdict} (Err why) (whole (damaged s)) → (Err why, s) ≡ on_store f s
  unfolding by on_store
  on_damaged why e = refused (damaged s) why e

  pub on_sound : damaged s ≡ false → told s (f (book_of s)) ≡ on_store f s
  unfolding on_store
  on_sound e = sym (ap (λ (b : Bool). cond b (Err Damaged, s) (told s (f (book_of s)))) e)
