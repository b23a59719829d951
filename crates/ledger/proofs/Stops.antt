-- A walk over slots that stopped, or did not. Assumes nothing.
use Rattle.std.specs.Prelude.{Result, Ok, Err}
use mathlib.Core.Path.{◌≡◌, refl, ap}
use mathlib.Core.Option.{Option, none, some}
use native.Mathlib.Omega.{arith}
use Prim.Native.Nat.{ℕ}
use Rattle.answer.specs.declared.Refusal.{Refusal}
use Rattle.road.specs.Results.{Verdict}
use Rattle.ledger.specs.Ledger.{unless_stopped}

module _ {A : Type 0} (k : Result A Refusal) where
  pub stopped : (o : Option Refusal) (why : Refusal) → ◌≡◌ {A = Verdict} (Err why) (unless_stopped o (Ok tt)) → Err why ≡ unless_stopped o k
  stopped none why e = absurd (let z : ◌≡◌ {A = ℕ} 0 1 = cc in omega arith)
  stopped (some r) why e = let same : why ≡ r = cc in ap Err same

  pub passed : (o : Option Refusal) → ◌≡◌ {A = Verdict} (Ok tt) (unless_stopped o (Ok tt)) → k ≡ unless_stopped o k
  passed none e = refl
  passed (some r) e = absurd (let z : ◌≡◌ {A = ℕ} 0 1 = cc in omega arith)
