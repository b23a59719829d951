-- `end_line` writes its parts one after another where there is room, and else nothing.
-- Assumes nothing.
use mathlib.Core.Path.{refl}
use native.Mathlib.Omega.{arith}
use borrow.Author.Rules.{rules}
use Rattle.listing.specs.Listing.{end_line}
use Rattle.text.proofs.Pages.{after, same, left, takes_decimal}
use Rattle.listing.proofs.Writing.{no_room, whole_line}
use Rattle.listing.proofs.end_line.Goals as goal

pub returns-then-out-lt-LINE_ROOM : goal.returns-then-out-lt-LINE_ROOM
returns-then-out-lt-LINE_ROOM c = no_room _ _ c.if-out-lt-LINE_ROOM.true

pub decimal-requires : goal.decimal-requires
decimal-requires c = omega (arith, c.if-out-lt-LINE_ROOM.false, left _ _ _ c.text.ensures)

pub text-requires-2 : goal.text-requires-2
text-requires-2 c = omega (arith, c.if-out-lt-LINE_ROOM.false, left _ _ _ c.text.ensures, takes_decimal _ _ _ c.ranges.n.fits c.decimal.ensures)

pub returns : goal.returns
unfolding end_line
returns c =
    let l = after _ _ _ (after _ _ _ c.text.ensures _ _ c.decimal.ensures) _ _ c.text-2.ensures in
    search (rules, whole_line _ _ _ refl c.if-out-lt-LINE_ROOM.false l, same _ _ _ l)
