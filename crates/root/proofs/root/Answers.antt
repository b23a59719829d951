-- `root` reads the root off the last line. Assumes nothing.
use Rattle.root.specs.Root.{root_of}
use Rattle.root.proofs.Laws.{root_is}
use Rattle.root.proofs.root.Goals as goal

pub returns : goal.returns
unfolding root_of
returns c = let h = root_is c.args.q in rw c.last_line.ensures (h.at_most, h.above)
