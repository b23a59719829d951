-- `write` refuses before it writes, and then writes the fields of the call.
-- Assumes nothing.
use Rattle.std.specs.Prelude.{Ok}
use Prim.Native.Nat.{ℕ}
use mathlib.Core.Path.{◌≡◌, sym, ap, ◌∙◌}
use mathlib.Core.List.{List, ◌++◌}
use native.Mathlib.Omega.{arith}
use lib.ListN.{drop}
use Rattle.layout.specs.Layout.{size}
use Rattle.request.specs.declared.Shape.{Shape}
use Rattle.request.specs.Kinds.{layout_of, verdict_of}
use Rattle.request.proofs.Laws.{write_done}
use Rattle.request.proofs.Calls.{written_record}
use Rattle.kinds.specs.Kind.{number_of}
use Rattle.codec.proofs.write.Goals as goal

pub returns : goal.returns
returns c =
    let h : verdict_of c.args.call c.args.source ≡ (Ok tt) = sym c.verdict.ensures ∙ c.in_ok-verdict.was in
    let n = ap (λ (x : Shape). x.bytes) c.shape_of-bytes.ensures ∙ ap (λ (j : ℕ). size (layout_of j)) c.kind_of-kind.ensures in
    let r = written_record c.args.call c.args.source (number_of c.kind_of-kind.result) c.fields_of-v.result c.kind_of-kind.ensures c.fields_of-v.ensures in
    ap (λ (l : List ℕ). (Ok tt, l)) (c.put.ensures ∙ (λ i. r i ++ drop (size (layout_of (c.kind_of-kind.ensures i))) c.args.out.now))
    ∙ write_done c.args.call c.args.source c.args.out.now h (omega arith)
