-- `reckon` hears one slot after the other. Assumes nothing.
-- with the sources from slot i on they come to what all sources make of them; and no sum is too large
use mathlib.Core.Path.{◌≡◌}
use Prim.Native.Nat.{ℕ}
use lib.ListN.{drop}
use mathlib.Core.List.{List, map}
use Rattle.screen.specs.declared.Wall.{Wall}
use Rattle.road.specs.Reach.{pair_of}
use Rattle.store.specs.Store.{book_of}
use Rattle.ledger.specs.declared.Tally.{Tally}
use Rattle.ledger.specs.Lists.{present}
use Rattle.ledger.specs.Ledger.{begun, heard_all}
use Rattle.ledger.proofs.Tallies.{AllCounted}
use Rattle.afresh.proofs.reckon.Given as goal

pub record Reckoning (walls : List Wall) (store : List ℕ) (ts : List Tally) (i : ℕ) : Type 0 where
  pub counted : AllCounted i ts
  pub comes : map (heard_all (pair_of walls) (present (drop i (book_of store).sources))) ts
      ≡ map (λ o. heard_all (pair_of walls) (present (book_of store).sources) (begun o)) (book_of store).receivers

abbrev pub invariant-loop-i : goal.invariant-loop-i
invariant-loop-i l = Reckoning l.walls l.store l.tallies l.i
