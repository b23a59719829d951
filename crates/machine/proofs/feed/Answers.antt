-- `feed` goes from record to record; the text so far, in front of what the rest leaves, is what all of them leave. Assumes nothing.
use Prim.Native.Nat.{◌-◌}
use native.Mathlib.Omega.{arith}
use mathlib.Core.Bool.{true}
use mathlib.Core.Path.{◌≡◌, refl, sym, ◌∙◌}
use lib.ListN.{length, length-drop}
use Rattle.machine.specs.Feed.{ready}
use Rattle.machine.proofs.Feeding.{going_begun, going_on, going_stopped, going_paused, feed_stopped}
use Rattle.machine.proofs.Good.{ready_parts}
use Rattle.machine.proofs.feed.Goals as goal

pub returns-then-x : goal.returns-then-x
returns-then-x c =
    (feed_stopped c.args.over c.args.x c.args.held.now c.args.store.now c.args.out.now c.if-x.true, c.requires.0)

pub loop-count-init : goal.loop-count-init
loop-count-init c =
    (going_begun c.args.over c.args.x.count c.args.held.now c.args.store.now c.args.out.now c.requires.0, refl)

pub overflow_sub-held : goal.overflow_sub-held
overflow_sub-held c = c.loop-count.invariant.0.used_within

pub overflow_sub-out : goal.overflow_sub-out
overflow_sub-out c = c.loop-count.invariant.0.wrote_within

pub overflow_add-count : goal.overflow_add-count
overflow_add-count c =
    let p = ready_parts c.args.over (length c.args.held.now - c.loop-count.used) (length c.loop-count.out - c.loop-count.wrote) (sym c.ready.ensures ∙ c.loop-count-test.true) in
    record { fits = omega (arith, c.loop-count.invariant.0.count_within, p.0, c.requires.1) }

pub enter-entry-requires : goal.enter-entry-requires
enter-entry-requires c =
    let p = ready_parts c.args.over (length c.args.held.now - c.loop-count.used) (length c.loop-count.out - c.loop-count.wrote) (sym c.ready.ensures ∙ c.loop-count-test.true) in
    (c.loop-count.invariant.0.sound, c.loop-count.invariant.0.used_within, omega (arith, p.1, c.loop-count.invariant.0.wrote_within))

pub shape_of-store-then-entry-eq0 : goal.shape_of-store-then-entry-eq0
shape_of-store-then-entry-eq0 c =
    c.enter-entry.auto.store
    ∙ c.loop-count.invariant.1

pub shape_of-out-then-entry-eq0 : goal.shape_of-out-then-entry-eq0
shape_of-out-then-entry-eq0 c =
    c.enter-entry.auto.out
    ∙ c.loop-count.invariant.0.size

pub returns-then-entry-eq0 : goal.returns-then-entry-eq0
returns-then-entry-eq0 c =
    let w : ready c.args.over (length c.args.held.now - c.loop-count.used) (length c.loop-count.out - c.loop-count.wrote) ≡ true =
    sym c.ready.ensures
    ∙ c.loop-count-test.true in (
      going_stopped c.args.over c.args.x.count c.args.held.now c.args.store.now c.args.out.now c.loop-count.store c.loop-count.out c.loop-count.used c.loop-count.wrote c.loop-count.count c.loop-count.invariant.0
          c.enter-entry.result _ _ c.enter-entry.ensures c.enter-entry.auto.out w c.args.x refl c.if-x.false c.if-entry-eq0.true,
      c.enter-entry.ensures.left_sound,
    )

pub overflow_add-used : goal.overflow_add-used
overflow_add-used c =
    record { fits = omega (arith, c.enter-entry.ensures.extent_within, c.loop-count.invariant.0.used_within, length-drop c.loop-count.used c.args.held.now, c.requires.1) }

pub loop-count-smaller : goal.loop-count-smaller
loop-count-smaller c =
    omega (arith, c.enter-entry.ensures.extent_within, c.loop-count.invariant.0.used_within, length-drop c.loop-count.used c.args.held.now, c.if-entry-eq0.false)

pub loop-count-preserved : goal.loop-count-preserved
loop-count-preserved c =
    let w : ready c.args.over (length c.args.held.now - c.loop-count.used) (length c.loop-count.out - c.loop-count.wrote) ≡ true =
    sym c.ready.ensures
    ∙ c.loop-count-test.true in (
      going_on c.args.over c.args.x.count c.args.held.now c.args.store.now c.args.out.now c.loop-count.store c.loop-count.out c.loop-count.used c.loop-count.wrote c.loop-count.count c.loop-count.invariant.0
          c.enter-entry.result _ _ c.enter-entry.ensures c.enter-entry.auto.out w c.if-entry-eq0.false,
      c.enter-entry.auto.store ∙ c.loop-count.invariant.1,
    )

pub shape_of-store : goal.shape_of-store
shape_of-store c = c.loop-count.invariant.1

pub shape_of-out : goal.shape_of-out
shape_of-out c = c.loop-count.invariant.0.size

pub returns : goal.returns
returns c = (
  going_paused c.args.over c.args.x.count c.args.held.now c.args.store.now c.args.out.now c.loop-count.store c.loop-count.out c.loop-count.used c.loop-count.wrote c.loop-count.count c.loop-count.invariant.0
      c.args.x refl c.if-x.false (sym c.ready.ensures ∙ c.loop-count-test.false),
  c.loop-count.invariant.0.sound,
)
