-- `hear` gives the lowest refusal that applies, or what the fields tell.
-- Assumes nothing.
use Rattle.std.specs.Prelude.{Option}
use Rattle.std.specs.Option.{unwrap_or}
use Prim.Native.Nat.{ℕ}
use mathlib.Core.Path.{◌≡◌, sym, ap, ◌∙◌}
use native.Mathlib.Omega.{arith}
use lib.ListN.{length, replicate}
use lib.Seq.{length-take-le}
use Rattle.std.proofs.lemmas.Result.{err_from_is_err_and}
use Rattle.request.specs.declared.Shape.{Shape}
use Rattle.request.specs.Kinds.{layout_of}
use Rattle.request.proofs.Rows.{row_count}
use Rattle.request.proofs.Laws.{heard_refused, heard_allowed}
use Rattle.kinds.specs.Kind.{number_of}
use Rattle.codec.proofs.Laws.{front_is, left_set, left_clear}
use Rattle.codec.proofs.hear.Goals as goal

pub slice_bounds-v-end : goal.slice_bounds-v-end
slice_bounds-v-end c =
    sym (length-take-le c.shape_of-count.result.count (replicate 25 0) (omega (arith, row_count (number_of c.in_ok-kind.kind), ap (λ (x : Shape). x.count) c.shape_of-count.ensures)))

pub values-requires : goal.values-requires
values-requires c =
    let f = front_is c.args.job.now c.in_ok-kind.kind (sym c.front.ensures ∙ c.in_ok-kind.was) in
    let m : c.shape_of-count.result.count ≡ length (layout_of (number_of c.in_ok-kind.kind)) = ap (λ (x : Shape). x.count) c.shape_of-count.ensures in
    (f.room, length-take-le _ (replicate 25 0) (omega (arith, row_count (number_of c.in_ok-kind.kind))) ∙ m)

pub returns-then-left : goal.returns-then-left
returns-then-left c =
    let e = sym c.front.ensures ∙ c.in_ok-kind.was in
    let g = ap (λ (x : Shape). x.fields) c.shape_of-count.ensures in
    let u = c.unwrap_or-left.ensures ∙ ap (λ (o : Option ℕ). unwrap_or o 0) c.copied.ensures ∙ c.get.ensures.lookup.4 (omega arith) 0 in
    left_set c.args.job.now c.in_ok-kind.kind _ _ _ e c.values.ensures g u c.if-left.true

pub returns-in_err-verdict : goal.returns-in_err-verdict
returns-in_err-verdict c =
    let p = err_from_is_err_and c.from_residual-in_err-verdict.result c.from_residual-in_err-verdict.ensures.1 in
    let e = sym c.front.ensures ∙ c.in_ok-kind.was in
    let g = ap (λ (x : Shape). x.fields) c.shape_of-count.ensures in
    let u = c.unwrap_or-left.ensures ∙ ap (λ (o : Option ℕ). unwrap_or o 0) c.copied.ensures ∙ c.get.ensures.lookup.4 (omega arith) 0 in
    rw (p.1, p.2)
    (heard_refused (number_of c.in_ok-kind.kind) c.values.new.v c.call-call.result c.source-source.result c.call-call.ensures c.source-source.ensures _ (sym c.verdict.ensures ∙ c.in_err-verdict.was)
    ∙ left_clear c.args.job.now c.in_ok-kind.kind _ _ _ e c.values.ensures g u c.if-left.false)

pub returns : goal.returns
returns c =
    let e = sym c.front.ensures ∙ c.in_ok-kind.was in
    let g = ap (λ (x : Shape). x.fields) c.shape_of-count.ensures in
    let u = c.unwrap_or-left.ensures ∙ ap (λ (o : Option ℕ). unwrap_or o 0) c.copied.ensures ∙ c.get.ensures.lookup.4 (omega arith) 0 in
    heard_allowed (number_of c.in_ok-kind.kind) c.values.new.v c.call-call.result c.source-source.result c.call-call.ensures c.source-source.ensures (sym c.verdict.ensures ∙ c.in_ok-verdict.was)
    ∙ left_clear c.args.job.now c.in_ok-kind.kind _ _ _ e c.values.ensures g u c.if-left.false
