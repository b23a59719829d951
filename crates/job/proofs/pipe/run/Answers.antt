-- `run` clears the store; then the texts so far, in front of what is left, are the listing of what arrived. Assumes nothing.
use native.Mathlib.Omega.{arith}
use Prim.Native.Nat.{◌-◌}
use mathlib.Core.Path.{refl}
use Rattle.job.proofs.Laws.{cleared_is, running_begun, running_on, finished, broken}
use Rattle.job.proofs.pipe.run.Goals as goal

pub loop-init : goal.loop-init
loop-init c =
    running_begun _ c.args.input.now c.args.output.now _ _ refl refl refl refl
    (cleared_is c.args.store.now _ c.clear.result c.requires.0 c.clear.ensures) (omega arith)

pub returns-then-s-2 : goal.returns-then-s-2
returns-then-s-2 c =
    finished _ _ _ c.loop.store c.loop.input c.loop.output c.loop.s _ c.finish-last.result _ c.loop.invariant c.if-s-2.true c.finish-last.ensures

pub turn-s-requires : goal.turn-s-requires
turn-s-requires c = (
  c.loop.invariant.sound,
  c.loop.invariant.ordered,
  c.loop.invariant.within,
  omega (arith, c.loop.invariant.same_input, c.requires.1),
  omega (arith, c.loop.invariant.same_input, c.requires.2),
  omega (arith, c.loop.invariant.few),
)

pub loop-preserved : goal.loop-preserved
loop-preserved c =
    running_on _ _ _ c.loop.store c.loop.input c.loop.output c.loop.s (140737488355328 - c.loop.counter) _ c.turn-s.result _ _ _ c.loop.invariant (omega (arith, c.loop-test.true))
    c.turn-s.auto.store c.turn-s.auto.input c.turn-s.auto.output c.turn-s.ensures

pub returns : goal.returns
returns c = broken _ _ _ _ c.loop.invariant.sound
