-- `part` is the record's bytes where it is read, and nothing where it is refused.
-- Assumes nothing.
use Prim.Native.Nat.{ℕ}
use mathlib.Core.Path.{sym, ap, ◌∙◌}
use native.Mathlib.Omega.{arith}
use lib.ListN.{take}
use lib.Seq.{length-take-le}
use Rattle.request.specs.declared.Reading.{Reading}
use Rattle.request.proofs.Laws.{extent_le}
use Rattle.request.proofs.Trips.{part_read, part_refused}
use Rattle.record.proofs.part.Goals as goal

pub slice_bounds-result-end : goal.slice_bounds-result-end
slice_bounds-result-end c =
    sym (length-take-le c.extent.result c.args.job.now (omega (arith, c.extent.ensures, extent_le c.args.job.now)))

pub returns-in-Ok : goal.returns-in-Ok
returns-in-Ok c =
    ap (λ (n : ℕ). take n c.args.job.now) c.extent.ensures
    ∙ sym (part_read c.args.job.now c.in-Ok.field-0 (ap (λ (r : Reading). r.told) (sym c.read.ensures) ∙ c.in-Ok.is))

pub returns-in-Err : goal.returns-in-Err
returns-in-Err c =
    sym (part_refused c.args.job.now c.in-Err.field-0 (ap (λ (r : Reading). r.told) (sym c.read.ensures) ∙ c.in-Err.is))
