-- `counted` takes the row of the class, whose numbers are small.
-- Assumes nothing.
use Prim.Native.Nat.{ℕ}
use mathlib.Core.Path.{ap, ◌∙◌}
use mathlib.Core.List.{List, [], ◌∷◌, ◌++◌}
use native.Mathlib.Omega.{arith}
use Rattle.road.specs.Fields.{road_table, source_of, values_by}
use Rattle.road.proofs.Periods.{on}
use Rattle.daily.specs.Daily.{counts_by}
use Rattle.daily.proofs.Laws.{small_row}
use Rattle.daily.proofs.counted.Goals as goal

pub period-day-requires : goal.period-day-requires
period-day-requires c =
    let b = small_row c.args.d.class c.row_of-row.ensures c.requires.0 in
    (c.requires.1, omega (arith, b.0, b.1, b.2, b.3, b.4, b.5), omega (arith, b.0, b.1, b.2, b.3, b.4, b.5))

pub period-evening-requires : goal.period-evening-requires
period-evening-requires c =
    let b = small_row c.args.d.class c.row_of-row.ensures c.requires.0 in
    (c.requires.1, omega (arith, b.0, b.1, b.2, b.3, b.4, b.5), omega (arith, b.0, b.1, b.2, b.3, b.4, b.5))

pub period-night-requires : goal.period-night-requires
period-night-requires c =
    let b = small_row c.args.d.class c.row_of-row.ensures c.requires.0 in
    (c.requires.1, omega (arith, b.0, b.1, b.2, b.3, b.4, b.5), omega (arith, b.0, b.1, b.2, b.3, b.4, b.5))

pub returns : goal.returns
returns c =
    (λ i. on c.args.course c.args.s (c.period-day.ensures i ∷ c.period-evening.ensures i ∷ c.period-night.ensures i ∷ []))
    ∙ ap (λ (r : List ℕ). source_of c.args.course (values_by road_table c.args.s ++ counts_by c.args.d.dtv r)) c.row_of-row.ensures
