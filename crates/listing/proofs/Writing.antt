-- A whole line in the bytes that are lent: all of it, or nothing where there is no room.
-- Assumes nothing.
use Prim.Native.Nat.{ℕ, ◌≤◌, ◌<◌}
use mathlib.Core.Path.{◌≡◌, sym, ap, ◌∙◌}
use mathlib.Core.Bool.{Bool, cond}
use mathlib.Core.List.{List, ◌++◌}
use native.Mathlib.Nat.{zero-add}
use borrow.Author.Tests.{lt-ltb, le-ltb}
use lib.ListN.{length, drop}
use Rattle.layout.specs.Over.{over}
use Rattle.text.specs.Text.{written}
use Rattle.text.specs.declared.Page.{Page}
use Rattle.text.specs.Page.{put_on}
use Rattle.text.proofs.Pages.{as_written}
use Rattle.listing.specs.Listing.{put}

pub no_room : (line out : List ℕ) → length out < 64 → (0, out) ≡ put line out
unfolding put
no_room line out h = ap (λ (t : Bool). cond t (0, out) (length line, line ++ drop (length line) out)) (sym (lt-ltb (length out) 64 h))

pub whole_line : (line : List ℕ) (p q : Page) → p.at ≡ 0 → 64 ≤ length p.out.now → q ≡ put_on line p → (q.at, q.out.now) ≡ put line p.out.now
unfolding put written over
whole_line line p q z h w =
    as_written line p q w ∙ ap (λ (k : ℕ). written k line p.out.now) z
    ∙ ap (λ (k : ℕ). (k, line ++ drop k p.out.now)) (zero-add (length line))
    ∙ ap (λ (t : Bool). cond t (0, p.out.now) (length line, line ++ drop (length line) p.out.now)) (sym (le-ltb (length p.out.now) 64 h))
