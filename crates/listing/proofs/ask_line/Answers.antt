-- `ask_line` writes its parts one after another where there is room, and else nothing.
-- Assumes nothing.
use Prim.Native.Nat.{ℕ, ◌+◌, ◌≤◌}
use mathlib.Core.Path.{◌≡◌, refl, ap, ◌∙◌}
use mathlib.Core.List.{◌∷◌}
use native.Mathlib.Omega.{arith}
use borrow.Author.Rules.{rules}
use Rattle.index.specs.Index.{Index}
use Rattle.text.specs.declared.Page.{Page}
use Rattle.text.specs.Page.{put_on}
use Rattle.listing.specs.Listing.{two_digits, level_text, ask_line}
use Rattle.text.proofs.Pages.{after, same, ends, left, Takes, takes, takes_decimal}
use Rattle.listing.proofs.Writing.{no_room, whole_line}
use Rattle.listing.proofs.ask_line.Goals as goal

takes_level : (x : Index) (p q : Page) → q ≡ put_on (32 ∷ level_text x) p → q.at ≤ p.at + 12 → Takes 12 p q
takes_level x p q w m = takes 12 _ p q (omega (arith, ends _ _ _ w, m)) w

pub returns-then-out-lt-LINE_ROOM : goal.returns-then-out-lt-LINE_ROOM
returns-then-out-lt-LINE_ROOM c = no_room _ _ c.if-out-lt-LINE_ROOM.true

pub put_mark-requires : goal.put_mark-requires
put_mark-requires c = omega (arith, c.if-out-lt-LINE_ROOM.false, takes_decimal _ _ _ c.ranges.n.fits c.decimal.ensures)

pub put_level-requires : goal.put_level-requires
put_level-requires c =
    omega (arith, c.if-out-lt-LINE_ROOM.false, takes_decimal _ _ _ c.ranges.n.fits c.decimal.ensures, left _ _ _ c.put_mark.ensures)

pub put_level-requires-2 : goal.put_level-requires-2
put_level-requires-2 c =
    let d = takes_level _ _ _ c.put_level.ensures.page_after c.put_level.ensures.upper_bound in
    omega (arith, c.if-out-lt-LINE_ROOM.false, takes_decimal _ _ _ c.ranges.n.fits c.decimal.ensures, left _ _ _ c.put_mark.ensures, d)

pub text-requires : goal.text-requires
text-requires c =
    let d = takes_level _ _ _ c.put_level.ensures.page_after c.put_level.ensures.upper_bound in
    let n = takes_level _ _ _ c.put_level-2.ensures.page_after c.put_level-2.ensures.upper_bound in
    omega (arith, c.if-out-lt-LINE_ROOM.false, takes_decimal _ _ _ c.ranges.n.fits c.decimal.ensures, left _ _ _ c.put_mark.ensures, d, n)

pub returns : goal.returns
unfolding ask_line
returns c =
    let m = c.put_mark.ensures ∙ ap (λ (x : ℕ). put_on (32 ∷ 82 ∷ two_digits x) c.decimal.new.self) c.from.ensures in
    let d = after _ _ _ (after _ _ _ c.decimal.ensures _ _ m) _ _ c.put_level.ensures.page_after in
    let l = after _ _ _ (after _ _ _ d _ _ c.put_level-2.ensures.page_after) _ _ c.text.ensures in
    search (rules, whole_line _ _ _ refl c.if-out-lt-LINE_ROOM.false l, same _ _ _ l)
