-- `apply` looks for damage before all else, then does as the service. Assumes nothing.
use Rattle.std.specs.Prelude.{Err}
use mathlib.Core.Path.{sym, ap, ◌∙◌}
use Prim.Native.Nat.{ℕ}
use Rattle.answer.specs.declared.Refusal.TheVariants.{Damaged}
use Rattle.service.specs.Service.{deed}
use Rattle.service.proofs.Laws.{on_damage}
use Rattle.clerk.proofs.apply.Goals as goal

pub returns-then-damaged : goal.returns-then-damaged
returns-then-damaged c =
    ap (λ (n : ℕ). deed (Err Damaged) n (Err Damaged, c.args.store.now)) c.extent-extent.ensures
    ∙ on_damage c.args.job.now c.args.store.now (sym c.damaged.ensures ∙ c.if-damaged.true)

pub serve-requires : goal.serve-requires
serve-requires c = sym c.damaged.ensures ∙ c.if-damaged.false

pub returns : goal.returns
returns c = c.serve.ensures.0
