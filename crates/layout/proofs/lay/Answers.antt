-- `lay` meets its contract: the part that is written is what was lent, and it comes back in its place.
use Rattle.std.proofs.Common.{refl}
use Rattle.layout.proofs.Writes.{over_lent}
use Rattle.layout.proofs.lay.Goals as goal

pub returns : goal.returns
returns c = rw c.copy_from_slice.ensures.after (over_lent c.args.at _ c.args.values.now c.args.vs.now refl)
