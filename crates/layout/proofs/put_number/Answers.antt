-- `put_number` meets its contract: the last n of eight bytes are the n bytes of a number.
use Rattle.std.proofs.Common.{arith}
use Rattle.layout.specs.Layout.{bytes_of}
use Rattle.layout.proofs.Numbers.{length_bytes_of}
use Rattle.layout.proofs.Turns.{same_bytes}
use Rattle.layout.proofs.Writes.{over_lent}
use Rattle.layout.proofs.put_number.Goals as goal

pub returns : goal.returns
returns c =
    let n = c.args.n in
    let x = c.args.x in
    rw (c.copy_from_slice.ensures.after, same_bytes n x _ _ c.to_be_bytes-bytes.ensures (omega arith) c.requires.0)
    (over_lent c.args.at _ (bytes_of n x) c.args.out.now (omega (arith, length_bytes_of n x)))
