-- `line` writes what an outcome prints; nothing where the record is done.
-- Assumes nothing.
use mathlib.Core.Path.{◌≡◌, refl}
use mathlib.Core.Bool.{Bool, true, false, cond}
use mathlib.Core.List.{List, []}
use Prim.Native.Nat.{ℕ}
use borrow.Author.Rules.{rules}
use lib.Dec.{ltb}
use lib.ListN.{length}
use Rattle.listing.specs.Listing.{put}
use Rattle.listing.proofs.line.Goals as goal

none_put : (out : List ℕ) → (0, out) ≡ put [] out
unfolding put
none_put out = go (ltb (length out) 64)
  where
    go : (b : Bool) → ◌≡◌ {A = ℕ × List ℕ} (0, out) (cond b (0, out) (0, out))
    go true = refl
    go false = refl

pub returns-in-Ok-Done : goal.returns-in-Ok-Done
returns-in-Ok-Done c = search (rules, none_put)
