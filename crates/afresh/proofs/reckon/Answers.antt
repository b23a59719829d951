-- `reckon` hears one slot after the other. Assumes nothing.
-- with the sources from slot i on they come to what all sources make of them; and no sum is too large
use mathlib.Core.Path.{sym, ◌∙◌, subst}
use Prim.Native.Nat.{◌+◌, ◌<◌}
use native.Mathlib.Omega.{arith}
use lib.ListN.{get_or}
use mathlib.Core.List.{List}
use mathlib.Core.Option.{none}
use Rattle.road.specs.Reach.{pair_of}
use Rattle.road.proofs.Pairs.{pair_bounded}
use Rattle.store.specs.Store.{source_count, book_of}
use Rattle.store.proofs.Laws.{sound_book}
use Rattle.ledger.specs.declared.Tally.{Tally}
use Rattle.ledger.proofs.Tallies.{counted_begun, counted_next, counted_ready, heard_begun, heard_next, heard_over}
use Rattle.afresh.proofs.reckon.Invariants.{Reckoning}
use Rattle.afresh.proofs.reckon.Goals as goal

pub loop-i-init : goal.loop-i-init
loop-i-init c =
    let b = sound_book c.args.store.now c.requires in
    subst (λ (ts : List Tally). Reckoning c.args.walls.now c.args.store.now ts 0) (sym c.begin_all-tallies.ensures) (record {
      counted = counted_begun (book_of c.args.store.now).receivers b.seats b.receivers_stand;
      comes = heard_begun (pair_of c.args.walls.now) (book_of c.args.store.now).sources (book_of c.args.store.now).receivers;
    })

pub hear_slot-requires : goal.hear_slot-requires
hear_slot-requires c =
    let h : c.loop-i.i < source_count = omega (arith, c.loop-i-test.true) in
    (c.requires, h, counted_ready c.loop-i.i _ h c.loop-i.invariant.counted)

pub loop-i-preserved : goal.loop-i-preserved
loop-i-preserved c =
    let ws = c.args.walls.now in
    let h : c.loop-i.i < source_count = omega (arith, c.loop-i-test.true) in
    subst (λ (ts : List Tally). Reckoning c.args.walls.now c.args.store.now ts (c.loop-i.i + 1)) (sym c.hear_slot.ensures) (record {
      counted = counted_next (pair_of ws) (pair_bounded ws) c.loop-i.i (get_or (book_of c.args.store.now).sources c.loop-i.i none) c.loop-i.tallies c.loop-i.invariant.counted;
      comes = heard_next (pair_of ws) (book_of c.args.store.now).sources c.loop-i.i c.loop-i.tallies (omega (arith, (sound_book c.args.store.now c.requires).source_slots_lem)) ∙ c.loop-i.invariant.comes;
    })

pub returns : goal.returns
returns c =
    heard_over (pair_of c.args.walls.now) (book_of c.args.store.now).sources c.loop-i.i c.loop-i.tallies (omega (arith, (sound_book c.args.store.now c.requires).source_slots_lem, c.loop-i-test.false))
    ∙ c.loop-i.invariant.comes
