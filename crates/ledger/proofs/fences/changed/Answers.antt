-- `changed` gathers the walls of one slot after the other. Assumes nothing.
use Rattle.std.specs.Prelude.{None, Some}
use mathlib.Core.Bool.{false}
use mathlib.Core.Path.{◌≡◌, sym, ap, ◌∙◌, subst}
use mathlib.Core.Option.{Option, some}
use mathlib.Core.List.{List}
use Prim.Native.Nat.{ℕ, ◌≤◌, ◌<◌}
use native.Mathlib.Omega.{arith}
use lib.ListN.{length, set, length-set}
use Rattle.screen.specs.declared.Wall.{Wall}
use Rattle.store.specs.Slots.{entry}
use Rattle.store.specs.Store.{wall_count, damaged, book_of, WallSlot, WallStands}
use Rattle.store.proofs.Laws.{sound_book, sound_wall}
use Rattle.ledger.specs.Ledger.{WallMayStand}
use Rattle.ledger.proofs.Laying.{laying_free, laying_wall, laying_all, laying_on_plan}
use Rattle.ledger.proofs.fences.changed.Goals as goal
use Rattle.ledger.proofs.fences.changed.Goals.{in-Some, in_default}

-- what comes stands
comes : (w : WallSlot) → WallMayStand w → (v : Wall) → entry w ≡ some v → WallStands v
comes None h v e = absurd (let z : ◌≡◌ {A = ℕ} 0 1 = cc in omega arith)
comes (Some w) h v e = let k : w ≡ v = cc in subst WallStands k h

-- after the last slot there is no other
over : (s : List ℕ) (k : ℕ) (w : WallSlot) (i : ℕ) → damaged s ≡ false → wall_count ≤ i → length (set (book_of s).walls k (entry w)) ≤ i
over s k w i h m = omega (arith, length-set (book_of s).walls k (entry w), (sound_book s h).wall_slots_lem, m)

pub loop-i-preserved : goal.loop-i-preserved
loop-i-preserved c =
    let b = (book_of c.args.store.now).walls in
    let l : List (Option Wall) = set b c.args.k (entry c.args.w) in
    let m : c.loop-i.i < length l = omega (arith, c.loop-i-test.true, (sound_book c.args.store.now c.requires.0).wall_slots_lem, length-set b c.args.k (entry c.args.w)) in
    elim c.match-slot_at.branch [
      | in-Some w ↦
          let r : c.loop-i.n < length c.loop-i.room = omega (arith, c.loop-i.invariant.room, c.loop-i-test.true, sym (length-set c.loop-i.room c.loop-i.n w.in-Some.wall) ∙ sym (ap length w.room-is) ∙ c.match-slot_at.array_long) in
          rw (w.room-is, w.n-is) (laying_wall l c.loop-i.room c.loop-i.n c.loop-i.i m c.loop-i.invariant w.in-Some.wall w.in-Some.ensures r)
      | in_default w ↦ rw (w.room-is, w.n-is) (laying_free l c.loop-i.room c.loop-i.n c.loop-i.i m c.loop-i.invariant w.in_default.ensures)
    ]

pub of-requires : goal.of-requires
of-requires c =
    let b = book_of c.args.store.now in
    let stands = (sound_wall b c.args.k (entry c.args.w) (sound_book c.args.store.now c.requires.0) (comes c.args.w c.requires.1)).walls_stand in
    laying_on_plan _ c.loop-i.room c.loop-i.n c.loop-i.i (over c.args.store.now c.args.k c.args.w c.loop-i.i c.requires.0 (omega (arith, c.loop-i-test.false))) c.loop-i.invariant stands

pub returns : goal.returns
returns c =
    c.of.ensures
    ∙ laying_all _ c.loop-i.room c.loop-i.n c.loop-i.i (over c.args.store.now c.args.k c.args.w c.loop-i.i c.requires.0 (omega (arith, c.loop-i-test.false))) c.loop-i.invariant
