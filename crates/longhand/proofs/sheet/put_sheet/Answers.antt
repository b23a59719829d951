-- `put_sheet` puts the first line, a row at each place that the calculation comes to, and the sum.
-- Assumes nothing.
use Prim.Native.Nat.{ℕ}
use mathlib.Core.Path.{ap, ◌∙◌}
use native.Mathlib.Omega.{arith}
use Rattle.root.specs.declared.Line.{Line}
use Rattle.root.proofs.Steps.{stands_fits}
use Rattle.text.specs.Page.{put_on}
use Rattle.text.proofs.Pages.{after}
use Rattle.longhand.specs.Sheet.{first_line, last_line, sheet_of}
use Rattle.longhand.proofs.Rows.{pairs_few, first_room, so_far_first, has_place, no_place, row_room, last_room, so_far_next, so_far_last}
use Rattle.longhand.proofs.sheet.put_sheet.Goals as goal

pub put_first-requires : goal.put_first-requires
put_first-requires c =
    (omega (arith, pairs_few c.args.q c.ranges.q.fits, c.pairs-n.ensures), omega (arith, c.requires))

pub loop-i-init : goal.loop-i-init
loop-i-init c =
    so_far_first c.args.q _ _ _ c.ranges.q.fits c.pairs-n.ensures c.highest-place.ensures
    (first_room c.pairs-n.result c.args.q _ _ (omega (arith, pairs_few c.args.q c.ranges.q.fits, c.pairs-n.ensures)) c.requires c.put_first.ensures)

pub step-line-requires : goal.step-line-requires
step-line-requires c =
    stands_fits _ _ _ (has_place c.loop-i.invariant c.loop-i-test.true) c.loop-i.invariant.stands c.ranges.q.fits

pub nonzero_div-q : goal.nonzero_div-q
nonzero_div-q c = has_place c.loop-i.invariant c.loop-i-test.true

pub moved-requires : goal.moved-requires
moved-requires c = has_place c.loop-i.invariant c.loop-i-test.true

pub put_row-requires : goal.put_row-requires
put_row-requires c =
    (omega arith, c.loop-i.invariant.few, row_room c.loop-i.invariant (has_place c.loop-i.invariant c.loop-i-test.true))

pub loop-i-preserved : goal.loop-i-preserved
loop-i-preserved c =
    so_far_next c.loop-i.invariant (has_place c.loop-i.invariant c.loop-i-test.true) _ c.moved.result _ c.step-line.ensures c.moved.ensures c.put_row.ensures

pub put_last-requires : goal.put_last-requires
put_last-requires c = last_room c.loop-i.invariant

pub returns : goal.returns
unfolding sheet_of
returns c =
    let all = so_far_last c.loop-i.invariant (no_place c.loop-i.invariant (omega arith)) c.pairs-n.ensures in
    let first = c.put_first.ensures ∙ ap (λ (n : ℕ). put_on (first_line n c.args.q) c.args.page.now) c.pairs-n.ensures in
    let last = c.put_last.ensures ∙ ap (λ (k : Line). put_on (last_line k c.args.q) c.loop-i.page) all.0 in
    after _ _ _ (after _ _ _ first _ _ all.1) _ _ last
