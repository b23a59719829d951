-- `tell` writes as many bytes as the sheet has.
use Rattle.std.proofs.Common.{arith}
use Rattle.longhand.proofs.Rows.{sheet_within}
use Rattle.longhand.proofs.tell.Goals as goal

pub shared_ref_as_front-write_all : goal.shared_ref_as_front-write_all
shared_ref_as_front-write_all c =
    omega (arith, sheet_within _ _ _ _ (omega arith) (omega arith) c.write-n.ensures)
