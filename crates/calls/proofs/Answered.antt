-- A call refuses in the order of the numbers: each test is answered before those behind it.
-- Assumes nothing.
use Rattle.std.specs.Prelude.{Ok, Err}
use Prim.Native.Nat.{ℕ}
use mathlib.Core.Path.{◌≡◌, refl}
use mathlib.Core.Bool.{Bool, true, false}
use mathlib.Core.List.{List, [], ◌∷◌}
use mathlib.Core.Option.{Option, none, some}
use Rattle.answer.specs.declared.Refusal.{Refusal}
use Rattle.answer.specs.declared.Refusal.TheVariants.{Damaged, Vacant}
use Rattle.screen.specs.declared.Wall.{Wall}
use Rattle.road.specs.declared.Source.{Source}
use Rattle.road.specs.declared.Receiver.{Receiver}
use Rattle.road.specs.Results.{Verdict}
use Rattle.store.specs.declared.Held.{Held}
use Rattle.store.specs.Store.{Book}
use Rattle.ledger.specs.Lists.{present, every}
use Rattle.calls.specs.Calls.{Step, allow, from_used, unless_barred, unless_late, refuse, place_source, place_receiver, place_wall}
use Rattle.calls.specs.Calls.{withdraw_source, withdraw_receiver, withdraw_wall, ask_receiver}
use Rattle.calls.specs.Order.{SourceOrder, ReceiverOrder, WallOrder, VacantOrder, InOrder}

-- ---- each gate, whatever stands behind it

by_fields : (v : Verdict) (k : Step) (why : Refusal) → v ≡ Err why → allow v k ≡ refuse why
by_fields v k why e = rw e

by_barred : (v : Verdict) (w : Option Refusal) (k : Step) (why : Refusal) → v ≡ Ok tt → w ≡ some why → allow v (unless_barred w k) ≡ refuse why
by_barred v w k why e f = rw (e, f)

by_late : (v : Verdict) (w : Option Refusal) (t : Bool) (k : Step) → v ≡ Ok tt → w ≡ none → t ≡ false
    → allow v (unless_barred w (unless_late t k)) ≡ refuse Damaged
by_late v w t k e f g = rw (e, f, g)

by_done : (v : Verdict) (w : Option Refusal) (t : Bool) (k : Step) → v ≡ Ok tt → w ≡ none → t ≡ true → allow v (unless_barred w (unless_late t k)) ≡ k
by_done v w t k e f g = rw (e, f, g)

by_placed : (v : Verdict) (w : Option Refusal) (k : Step) → v ≡ Ok tt → w ≡ none → allow v (unless_barred w k) ≡ k
by_placed v w k e f = rw (e, f)

-- whoever is asked nothing can follow
all_can : (l : List Held) → every (λ (x : Held). true) l ≡ true
all_can [] = refl
all_can (x ∷ l) = all_can l

by_vacant : {A : Type 0} (v : Verdict) (o : Option A) (k : A → Step) → v ≡ Ok tt → o ≡ none → allow v (from_used o k) ≡ refuse Vacant
by_vacant v o k e f = rw (e, f)

-- ---- the calls that place

source_order : (i : ℕ) (s : Source) (b : Book) → SourceOrder i s b
unfolding place_source
source_order i s b = record { fields_first = by_fields _ _; then_barred = by_barred _ _ _; then_late = by_late _ _ _ _; then_done = by_done _ _ _ _ }

receiver_order : (j : ℕ) (r : Receiver) (b : Book) → ReceiverOrder j r b
unfolding place_receiver
receiver_order j r b = record { fields_first = by_fields _ _; then_barred = by_barred _ _ _; then_done = by_placed _ _ _ }

wall_order : (k : ℕ) (w : Wall) (b : Book) → WallOrder k w b
unfolding place_wall
wall_order k w b = record { fields_first = by_fields _ _; then_barred = by_barred _ _ _; then_done = λ e f. by_done _ _ _ _ e f (all_can (present b.receivers)) }

-- ---- the calls on a slot that has to be used

vacant_order : (i : ℕ) (b : Book) → VacantOrder i b
unfolding withdraw_source withdraw_receiver withdraw_wall ask_receiver
vacant_order i b = record { source = by_vacant _ _ _; receiver = by_vacant _ _ _; wall = by_vacant _ _ _; ask = by_vacant _ _ _ }

pub in_order : InOrder
in_order = record { source = source_order; receiver = receiver_order; wall = wall_order; vacant = vacant_order }
