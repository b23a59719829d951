-- `put` lends the bytes from the slot on; what follows the slot stays.
-- Assumes nothing.
use native.Mathlib.Omega.{arith}
use mathlib.Core.Path.{ap, ◌∙◌}
use Rattle.store.proofs.Slots.{lent_back}
use lib.ListN.{length, take, drop}
use mathlib.Core.List.{List, ◌++◌}
use Prim.Native.Nat.{ℕ, ◌+◌, ◌*◌, ◌-◌}
use Rattle.store.proofs.slot.Slots.put.Goals as goal

pub returns : goal.returns
returns g c =
    let s = c.args.store.now in
    let at = c.args.self.now.begin + c.args.i * c.args.self.now.size in
    ap (λ (t : List ℕ). take at s ++ (t ++ drop (length s - at) (drop at s))) c.put_fields.ensures
    ∙ lent_back c.args.self.now.widths c.args.v.now s at (omega arith)
