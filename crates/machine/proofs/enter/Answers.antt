-- `enter` does one record and puts its line. Assumes nothing.
use Prim.Native.Nat.{◌-◌}
use native.Mathlib.Omega.{arith}
use lib.ListN.{length, drop, length-drop}
use lib.Seq.{take_all}
use Rattle.machine.proofs.Lines.{entered}
use Rattle.machine.proofs.enter.Goals as goal

pub returns : goal.returns
returns c =
    entered c.args.held.now c.args.store.now c.args.out.now _ c.args.at c.args.n c.args.place c.serve-deed.result _ c.put_line-wrote.result _
    (take_all (length c.args.held.now - c.args.at) (drop c.args.at c.args.held.now) (omega (arith, length-drop c.args.at c.args.held.now))) c.serve-deed.ensures.0 c.serve-deed.ensures.1 c.put_line-wrote.ensures
