-- `numbers` lends the bytes from the slot on; the layout reads only its own.
-- Assumes nothing.
use Prim.Native.Nat.{◌+◌, ◌*◌, ◌-◌, ◌≤◌}
use mathlib.Core.Path.{sym, ap, ◌∙◌}
use native.Mathlib.Omega.{arith}
use lib.ListN.{length, drop, length-drop}
use lib.Seq.{take_all}
use Rattle.layout.specs.Layout.{fields}
use Rattle.layout.proofs.Laws.{fields_front}
use Rattle.store.proofs.slot.Slots.numbers.Goals as goal

pub returns : goal.returns
returns g c =
    let s = c.args.store.now in
    let at = c.args.self.now.begin + c.args.i * c.args.self.now.size in
    let ws = c.args.self.now.widths in
    let e : length (drop at s) ≤ length s - at = rw (length-drop at s) (omega arith) in
    c.take_fields.ensures ∙ ap (fields ws) (take_all (length s - at) (drop at s) e) ∙ sym (fields_front ws (drop at s))
