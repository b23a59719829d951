-- `refusal_line` writes its parts one after another where there is room, and else nothing.
-- Assumes nothing.
use Prim.Native.Nat.{ℕ}
use mathlib.Core.Path.{refl, ap, ◌∙◌}
use mathlib.Core.List.{◌∷◌}
use native.Mathlib.Omega.{arith}
use borrow.Author.Rules.{rules}
use Rattle.text.specs.Page.{put_on}
use Rattle.listing.specs.Listing.{two_digits, refusal_line}
use Rattle.text.proofs.Pages.{after, same, left, takes_decimal}
use Rattle.listing.proofs.Writing.{no_room, whole_line}
use Rattle.listing.proofs.refusal_line.Goals as goal

pub returns-then-out-lt-LINE_ROOM : goal.returns-then-out-lt-LINE_ROOM
returns-then-out-lt-LINE_ROOM c = no_room _ _ c.if-out-lt-LINE_ROOM.true

pub put_mark-requires : goal.put_mark-requires
put_mark-requires c = omega (arith, c.if-out-lt-LINE_ROOM.false, takes_decimal _ _ _ c.ranges.n.fits c.decimal.ensures)

pub text-requires : goal.text-requires
text-requires c =
    omega (arith, c.if-out-lt-LINE_ROOM.false, takes_decimal _ _ _ c.ranges.n.fits c.decimal.ensures, left _ _ _ c.put_mark.ensures)

pub returns : goal.returns
unfolding refusal_line
returns c =
    let m = c.put_mark.ensures ∙ ap (λ (x : ℕ). put_on (32 ∷ 69 ∷ two_digits x) c.decimal.new.self) (c.from.ensures ∙ c.number.ensures) in
    let l = after _ _ _ (after _ _ _ c.decimal.ensures _ _ m) _ _ c.text.ensures in
    search (rules, whole_line _ _ _ refl c.if-out-lt-LINE_ROOM.false l, same _ _ _ l)
