-- The gates that a call passes on its way: what comes past them, and that no refusal on the way is for damage.
-- Assumes nothing.
use Rattle.std.specs.Prelude.{Ok, Err}
use mathlib.Core.Path.{◌≡◌, refl, ap, subst}
use mathlib.Core.Logic.{◌≢◌}
use mathlib.Core.Bool.{Bool, true, false}
use mathlib.Core.Option.{Option, none, some}
use mathlib.Core.List.{List, [], ◌∷◌, map}
use Prim.Native.Nat.{ℕ, suc, ◌+◌, ◌≤◌, ◌<◌}
use native.Mathlib.Nat.{le_refl}
use native.Mathlib.Omega.{arith}
use borrow.Author.Tests.{le-leb}
use lib.ListN.{length}
use Rattle.answer.specs.declared.Refusal.{Refusal}
use Rattle.answer.specs.declared.Refusal.TheVariants.{Damaged}
use Rattle.answer.specs.Table.{number_of, place_of}
use Rattle.road.specs.declared.Source.{Source}
use Rattle.road.specs.declared.Receiver.{Receiver}
use Rattle.road.specs.declared.Bar.TheVariants.{Near, Far, Long, Loud, Walls}
use Rattle.road.specs.Results.{Pair}
use Rattle.road.specs.Results.{Verdict}
use Rattle.road.specs.Judge.{slot_verdict}
use Rattle.road.proofs.Judged.{slot_allowed, ByFields, slot_by_lem, by_apart}
use Rattle.store.specs.declared.Held.{Held}
use Rattle.store.specs.Store.{Book}
use Rattle.calls.specs.Calls.{Answer}
use Rattle.ledger.specs.Lists.{omap, present, every, or_bar, first_bar}
use Rattle.ledger.specs.Changes.{Change, follow, bar_of, onward, together}
use Rattle.calls.specs.Calls.{used, Step, refuse, tell, change, allow, from_used, unless_barred, unless_late, followed}
use Rattle.road.specs.Pairs.{Pairing, is_heard}
use Rattle.calls.proofs.Sums.{heard_all, HearsAll, never}

-- ---- gates: what the rule N allows comes past them and is fine; a refusal is not for damage, and is against the rule

abbrev pub Fine : Type 0 → (Answer → Type 0) → (Book → Type 0) → Step → Type 0
Fine N Q P (refuse r) = (r ≢ Damaged) × (N → ⊥)
Fine N Q P (tell a) = N × Q a
Fine N Q P (change b) = N × P b

module _ (N : Type 0) (Q : Answer → Type 0) (P : Book → Type 0) where
  past_verdict : (v : Verdict) (k : Step) → v ≢ Err Damaged → (N → v ≡ Ok tt) → (v ≡ Ok tt → Fine N Q P k) → Fine N Q P (allow v k)
  past_verdict (Ok tt) k d n f = f refl
  past_verdict (Err r) k d n f = (λ e. d (ap Err e), λ x. let q = n x in never cc)

  pub past_used : {A : Type 0} (o : Option A) (k : A → Step) → (N → used o ≡ true)
      → ((a : A) → o ≡ some a → Fine N Q P (k a)) → Fine N Q P (from_used o k)
  past_used none k n f = (λ e. never cc, λ x. let q = n x in never cc)
  past_used (some a) k n f = f a refl

  pub past_bars : (o : Option Refusal) (k : Step) → o ≢ some Damaged → (N → o ≡ none) → (o ≡ none → Fine N Q P k) → Fine N Q P (unless_barred o k)
  past_bars none k d n f = f refl
  past_bars (some r) k d n f = (λ e. d (ap some e), λ x. let q = n x in never cc)

  past_late : (t : Bool) (k : Step) → t ≡ true → Fine N Q P k → Fine N Q P (unless_late t k)
  past_late true k e f = f
  past_late false k e f = never cc

-- ---- bars

-- 10 to 14, at a slot below n
abbrev pub ByPair : ℕ → Option Refusal → Type 0
ByPair n none = Unit {0}
ByPair n (some why) = (10 ≤ number_of why) × (number_of why ≤ 14) × (place_of why < n)

module _ {A : Type 0} (pair : A → Pair) where
  pub bars_none : (j : ℕ) (l : List (Option A)) → heard_all pair l → first_bar pair j l ≡ none
  unfolding first_bar
  bars_none j [] p = refl
  bars_none j (none ∷ l) p = bars_none (suc j) l p
  bars_none j (some a ∷ l) p = go (pair a) p.0 (bars_none (suc j) l p.1)
    where
      go : (q : Pair) → is_heard q ≡ true → first_bar pair (suc j) l ≡ none → or_bar j q (first_bar pair (suc j) l) ≡ none
      go (Ok h) t e = e
      go (Err b) t e = never cc

  -- a bar is refused 10 to 14, at the slot of one of them, and so not for damage
  pub bars_by : (n j : ℕ) (l : List (Option A)) → j + length l ≤ n → ByPair n (first_bar pair j l)
  unfolding first_bar
  bars_by n j [] h = tt
  bars_by n j (none ∷ l) h = bars_by n (suc j) l (omega arith)
  bars_by n j (some a ∷ l) h = go (pair a) (bars_by n (suc j) l (omega arith))
    where
      go : (p : Pair) → ByPair n (first_bar pair (suc j) l) → ByPair n (or_bar j p (first_bar pair (suc j) l))
      go (Ok x) m = m
      go (Err Near) m = (omega arith, omega arith, omega arith)
      go (Err Far) m = (omega arith, omega arith, omega arith)
      go (Err Long) m = (omega arith, omega arith, omega arith)
      go (Err Loud) m = (omega arith, omega arith, omega arith)
      go (Err Walls) m = (omega arith, omega arith, omega arith)

  pub bars_apart : (j : ℕ) (l : List (Option A)) → first_bar pair j l ≢ some Damaged
  bars_apart j l e = omega (arith, (subst (ByPair (j + length l)) e (bars_by (j + length l) j l (le_refl (j + length l)))).0)

pub bars_omap : {A B : Type 0} (f : A → B) (pair : B → Pair) (j : ℕ) (l : List (Option A))
    → first_bar pair j (map (omap f) l) ≡ first_bar (λ (a : A). pair (f a)) j l
unfolding first_bar
bars_omap f pair j [] = refl
bars_omap f pair j (none ∷ l) = bars_omap f pair (suc j) l
bars_omap f pair j (some a ∷ l) = ap (or_bar j (pair (f a))) (bars_omap f pair (suc j) l)

-- a change that all receivers can follow
pub past_followed : (N : Type 0) (Q : Answer → Type 0) (P : Book → Type 0) (c : Change) (after : List (Option Held) → Book) (b : Book)
    → (N → bar_of c b.receivers ≡ none) → every c.fits (present b.receivers) ≡ true
    → (bar_of c b.receivers ≡ none → N × P (after (map (omap (follow c)) b.receivers))) → Fine N Q P (followed c after b)
past_followed N Q P c after b heard fits give =
    past_bars N Q P (bar_of c b.receivers) _ (bars_apart _ 0 _) heard λ bars. past_late N Q P _ _ fits (give bars)

-- all sources together are heard at a point where each is heard, and nowhere else
module _ (pair : Pairing) (r : Receiver) where
  pub each_together : (ss : List Source) → HearsAll pair ss r → is_heard (together pair ss r) ≡ true
  each_together [] p = refl
  each_together (s ∷ ss) p = go (pair s r) p.0 (each_together ss p.1)
    where
      go : (q : Pair) → is_heard q ≡ true → is_heard (together pair ss r) ≡ true → is_heard (onward q (together pair ss r)) ≡ true
      go (Ok h) t e = e
      go (Err b) t e = never cc

  pub together_each : (ss : List Source) → is_heard (together pair ss r) ≡ true → HearsAll pair ss r
  together_each [] e = tt
  together_each (s ∷ ss) e = go (pair s r) (together_each ss) e
    where
      go : (q : Pair) → (is_heard (together pair ss r) ≡ true → HearsAll pair ss r) → is_heard (onward q (together pair ss r)) ≡ true
          → (is_heard q ≡ true) × HearsAll pair ss r
      go (Ok h) ih e = (refl, ih e)
      go (Err b) ih e = never cc

-- ---- verdicts

pub slot_passes : (most i : ℕ) (v : Verdict) → (i ≤ most) × (v ≡ Ok tt) → slot_verdict most i v ≡ Ok tt
slot_passes most i v h = rw (le-leb i most h.0) h.1

-- the slot and the fields
module _ (N : Type 0) (Q : Answer → Type 0) (P : Book → Type 0) where
  pub past_fields : (most i : ℕ) (v : Verdict) (k : Step) → ByFields v → (N → (i ≤ most) × (v ≡ Ok tt))
      → ((i ≤ most) × (v ≡ Ok tt) → Fine N Q P k) → Fine N Q P (allow (slot_verdict most i v) k)
  past_fields most i v k d n f =
      past_verdict N Q P (slot_verdict most i v) k (by_apart (slot_verdict most i v) (slot_by_lem most i v d)) (λ x. slot_passes most i v (n x)) (λ e. f (slot_allowed most i v e))
