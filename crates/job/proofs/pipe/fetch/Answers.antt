-- `fetch` lends the bytes behind those at hand to the read, which leaves the others. Assumes nothing.
use Prim.Native.Nat.{ℕ, ◌-◌, ◌≤◌}
use mathlib.Core.Path.{◌≡◌}
use mathlib.Core.List.{List}
use native.Mathlib.Omega.{arith}
use lib.ListN.{length, drop, length-drop}
use lib.Seq.{length-take-le}
use Rattle.std.specs.Prelude.{Result, Ok, Err, IfOk}
use Rattle.std.specs.Result.{result_unwrap_or}
use Rattle.std.specs.Counts.{IsPrefixLen}
use Rattle.job.proofs.Laws.{fetched}
use Rattle.job.proofs.pipe.fetch.Goals as goal

-- what was read has room; where the read fails it is nothing
within : {E : Type 0} (r : Result ℕ E) (n : ℕ) (xs : List ℕ) → IfOk r (λ m. IsPrefixLen m xs) → n ≡ result_unwrap_or r 0 → n ≤ length xs
within (Ok m) n xs h e = omega (arith, h.0, e)
within (Err x) n xs h e = omega (arith, e)

pub returns : goal.returns
returns c =
    fetched c.args.input.now c.read-got.new.buf c.args.held c.unwrap_or-more.result _ (omega (arith, c.requires)) c.read-got.auto.buf
    (let w = within c.read-got.result c.unwrap_or-more.result c.read-got.new.buf c.read-got.ensures.bound c.unwrap_or-more.ensures in
    let n = length-take-le (length c.args.input.now - c.args.held) (drop c.args.held c.args.input.now) (omega (arith, length-drop c.args.held c.args.input.now)) in
    omega (arith, w, n, c.read-got.auto.buf, c.requires))
    (λ i. (c.type_inv.input i).fits)
