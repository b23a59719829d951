-- `write_seats` writes whoever is in a seat, each into its slot. Assumes nothing.
use Rattle.std.specs.Prelude.{None}
use mathlib.Core.Path.{◌≡◌, refl, ap, ◌∙◌}
use Prim.Native.Nat.{ℕ, ◌+◌}
use native.Mathlib.Omega.{arith}
use lib.ListN.{get_or, take}
use native.Mathlib.Numerals.{add-one}
use Rattle.store.specs.Store.{book, book_of}
use Rattle.store.proofs.Laws.{sound_book}
use Rattle.ledger.specs.Ledger.{seated}
use Rattle.ledger.proofs.Seats.{seated_next, seat_holds}
use Rattle.ledger.proofs.round.write_seats.Goals as goal

pub loop-k-init : goal.loop-k-init
unfolding seated
loop-k-init c = record { bytes = λ i. (c.slice_known-1.given i).fits; whole = c.requires.0; is = refl }

pub loop-k-preserved : goal.loop-k-preserved
loop-k-preserved c =
    let b = book_of c.args.store.now in
    let k = c.loop-k.k in
    let seats = c.args.seats.now in
    let now = seat_holds c.loop-k.store _ (book b.sources (seated (take k seats) b.receivers) b.walls) k (get_or seats k None) c.loop-k.invariant (c.requires.1.stand k) c.settle.ensures in
    let next : seated (take (k + 1) seats) b.receivers ≡ _ =
    ap (λ (n : ℕ). seated (take n seats) b.receivers) (add-one k)
    ∙ seated_next seats b.receivers k (omega (arith, c.requires.1.count, c.loop-k-test.true)) (omega (arith, (sound_book c.args.store.now c.requires.0).seats, c.loop-k-test.true)) in
    rw next now
