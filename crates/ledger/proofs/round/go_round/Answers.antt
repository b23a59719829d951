-- `go_round` asks every receiver from the lowest slot on and keeps the seats as they would be. Assumes nothing.
use Rattle.std.specs.Prelude.{None, Err}
use mathlib.Core.Path.{sym, ap, ◌∙◌, subst, subst₂}
use mathlib.Core.Bool.{Bool}
use mathlib.Core.List.{List}
use Prim.Native.Nat.{◌+◌, ◌<◌}
use native.Mathlib.Omega.{arith}
use lib.ListN.{length}
use lib.Seq.{set-get_or}
use Rattle.road.specs.Reach.{pair_of}
use Rattle.store.specs.Store.{Seat, book_of}
use Rattle.store.proofs.Laws.{undamaged, sound_book, seat_used, seat_free}
use Rattle.store.specs.Slots.{entry}
use Rattle.ledger.specs.Changes.{Change, exchange}
use Rattle.ledger.proofs.Rounds.{Rounding, round_begun, round_free, round_moved, round_late, round_barred, round_over, round_late_over, round_stopped}
use Rattle.ledger.proofs.round.go_round.Goals as goal
use Rattle.ledger.proofs.round.go_round.Goals.{in-Moved, in-Late}

pub loop-j-init : goal.loop-j-init
loop-j-init c = round_begun _ _

pub read-requires : goal.read-requires
read-requires c = (c.loop-j-test.true, (undamaged c.args.store.now c.requires).0)

pub loop-j-preserved-in_default : goal.loop-j-preserved-in_default
loop-j-preserved-in_default c =
    let made : Change = exchange (pair_of c.args.walls.now) (entry c.args.goes.now) (entry c.args.comes.now) in
    let l = (book_of c.args.store.now).receivers in
    let lp = c.loop-j in
    let within : lp.j < length l = omega (arith, (sound_book c.args.store.now c.requires).seats, c.loop-j-test.true) in
    subst (λ (ts : List Seat). Rounding made l lp.late ts (lp.j + 1)) (sym (set-get_or lp.seat-items lp.j None))
    (round_free made l lp.late lp.seat-items lp.j within c.loop-j-test.true lp.invariant (seat_free c.args.store.now lp.j c.requires c.loop-j-test.true (sym c.in_default.ensures)))

pub meet-requires : goal.meet-requires
meet-requires c =
    (seat_used c.args.store.now c.loop-j.j c.requires c.loop-j-test.true c.in-Some.x (sym c.in-Some.ensures)).1.0

pub returns-in-Barred : goal.returns-in-Barred
returns-in-Barred c =
    let made : Change = exchange (pair_of c.args.walls.now) (entry c.args.goes.now) (entry c.args.comes.now) in
    let l = (book_of c.args.store.now).receivers in
    let lp = c.loop-j in
    let within : lp.j < length l = omega (arith, (sound_book c.args.store.now c.requires).seats, c.loop-j-test.true) in
    let used = (seat_used c.args.store.now lp.j c.requires c.loop-j-test.true c.in-Some.x (sym c.in-Some.ensures)).0 in
    ap Err c.bar_at.ensures
    ∙ round_stopped made l _ (round_barred made l lp.late lp.seat-items lp.j within c.loop-j-test.true lp.invariant c.in-Some.x _ used (sym c.in-Barred.ensures))

pub loop-j-preserved : goal.loop-j-preserved
loop-j-preserved c =
    let made : Change = exchange (pair_of c.args.walls.now) (entry c.args.goes.now) (entry c.args.comes.now) in
    let l = (book_of c.args.store.now).receivers in
    let lp = c.loop-j in
    let within : lp.j < length l = omega (arith, (sound_book c.args.store.now c.requires).seats, c.loop-j-test.true) in
    let used = (seat_used c.args.store.now lp.j c.requires c.loop-j-test.true c.in-Some.x (sym c.in-Some.ensures)).0 in
    let family : Bool → List Seat → Type 0 = λ b ts. Rounding made l b ts (lp.j + 1) in
    elim c.match-meet.branch [
      | in-Moved w ↦
          subst₂ family (sym w.late-is) (sym w.seat-items-is)
          (round_moved made l lp.late lp.seat-items lp.j within c.loop-j-test.true lp.invariant c.in-Some.x w.in-Moved.sums used (sym w.in-Moved.ensures))
      | in-Late w ↦
          subst₂ family (sym w.late-is) (sym (w.seat-items-is ∙ set-get_or lp.seat-items lp.j None))
          (round_late made l lp.late lp.seat-items lp.j within c.loop-j-test.true lp.invariant c.in-Some.x used (sym w.in-Late.ensures))
    ]

pub returns-then-late : goal.returns-then-late
returns-then-late c =
    let made : Change = exchange (pair_of c.args.walls.now) (entry c.args.goes.now) (entry c.args.comes.now) in
    round_late_over made (book_of c.args.store.now).receivers c.loop-j.late c.loop-j.seat-items c.loop-j.j
    (sound_book c.args.store.now c.requires).seats c.loop-j-test.false c.loop-j.invariant c.if-late.true

pub returns : goal.returns
returns c =
    let made : Change = exchange (pair_of c.args.walls.now) (entry c.args.goes.now) (entry c.args.comes.now) in
    round_over made (book_of c.args.store.now).receivers c.loop-j.late c.loop-j.seat-items c.loop-j.j
    (sound_book c.args.store.now c.requires).seats c.loop-j-test.false c.loop-j.invariant c.if-late.false
