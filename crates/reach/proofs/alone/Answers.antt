-- `alone` tries the bars in their order, and then hears. Assumes nothing.
use Rattle.std.specs.Prelude.{Result, None, Err, IfSome}
use Rattle.std.specs.Option.{ok_or}
use Rattle.std.proofs.lemmas.Result.{err_from_is_err_and}
use mathlib.Core.Path.{◌≡◌, sym, ap, ◌∙◌, subst}
use mathlib.Core.Option.{none}
use Prim.Native.Nat.{ℕ, ◌+◌, ◌*◌, ◌-◌, ◌≤◌}
use native.Mathlib.Omega.{arith}
use Rattle.course.specs.declared.Piece.{Piece}
use Rattle.course.specs.Course.{square}
use Rattle.screen.specs.Plan.{point}
use Rattle.screen.specs.Section.{Reaches}
use Rattle.screen.specs.Screen.{Loss, loss_of}
use Rattle.screen.specs.declared.Wall.{Wall}
use mathlib.Core.List.{List}
use Rattle.road.specs.declared.Bar.{Bar}
use Rattle.road.specs.declared.Bar.TheVariants.{Near, Far, Long, Walls}
use Rattle.road.specs.declared.Receiver.{Receiver}
use Rattle.road.specs.Limits.{coordinate, longest, highest_receiver}
use Rattle.road.specs.Results.{Pair}
use Rattle.road.specs.Reach.{source_height, plan_square, space_square, screen_between, two_walls, bar_of, nearest, farthest}
use Rattle.road.specs.Inner.{hear_of, share_by}
use Rattle.road.proofs.Bounds.{times}
use Rattle.road.proofs.Fit.{FitPiece, FitReceiver, fit_receiver}
use Rattle.road.proofs.Sums.{small_length}
use Rattle.road.proofs.Pairs.{bar_near, bar_far, bar_long, bar_none, one_barred, one_walled, one_heard}
use Rattle.reach.proofs.Laws.{plan_most, space_is}
use Rattle.reach.proofs.alone.Goals as goal

-- ---- what the arguments tell

piece : (p : Piece) → (p.x ≤ coordinate) × (p.y ≤ coordinate) × (1 ≤ p.length) × (p.length ≤ longest) → FitPiece p
piece p h = record { x = h.0; y = h.1; some = h.2; short = h.3 }

-- the rise is up to that of the highest point
rise : (height : ℕ) → height ≤ highest_receiver → square (height - source_height) ≤ square (highest_receiver - source_height)
rise height h =
    times (height - source_height) (height - source_height) (highest_receiver - source_height) (highest_receiver - source_height) (omega (arith, h)) (omega (arith, h))

-- what `screened` is told
reaches : (r : Receiver) (q0 q : ℕ) → FitReceiver r → q ≡ q0 + square (r.height - source_height) → nearest ≤ q → q ≤ farthest → Reaches r.height q0 q
reaches r q0 q f e near far = record {
  low = omega (arith, f.low);
  high = omega (arith, f.high);
  some = omega (arith, near, rise r.height f.high, e);
  rises = omega (arith, e);
  near = far;
}

-- ---- the squared distances that were worked out are the definition's

record Apart (p : Piece) (r : Receiver) (q0 q : ℕ) : Type 0 where
  plan : q0 ≡ plan_square p r
  space : q ≡ space_square p r

apart : (p : Piece) (r : Receiver) (q0 q : ℕ) → q0 ≡ plan_square p r → q ≡ q0 + square (r.height - source_height) → Apart p r q0 q
apart p r q0 q e f = record { plan = e; space = space_is p r q0 q e f }

-- and so is what the walls take off by them
taken : (ws : List Wall) (p : Piece) (r : Receiver) (q0 q : ℕ) (l : Loss) → Apart p r q0 q
    → l ≡ loss_of (point p.x p.y) (point r.x r.y) r.height q0 q ws → l ≡ screen_between ws p r
unfolding screen_between
taken ws p r q0 q l a e = e ∙ (λ i. loss_of (point p.x p.y) (point r.x r.y) r.height (a.plan i) (a.space i) ws)

-- no bar of a place
placed : (p : Piece) (r : Receiver) (q0 q : ℕ) → Apart p r q0 q → nearest ≤ q → q ≤ farthest → 4 * square p.length ≤ q → bar_of p r ≡ none
placed p r q0 q a near far long = bar_none p r (omega (arith, a.space, near)) (omega (arith, a.space, far)) (omega (arith, a.space, long))

-- where nothing can be told, it is for the walls
why_is : (l : Loss) (why : Bar) → ◌≡◌ {A = Result ℕ Bar} (Err why) (ok_or l Walls) → l ≡ None → why ≡ Walls
why_is l why e f = grind arith

-- ---- the goals

pub plan-q0-requires : goal.plan-q0-requires
plan-q0-requires c =
    let f = piece c.args.sent.whole c.requires.x_le_coordinate in
    let r = fit_receiver c.args.r c.requires.fits.1 in
    (f.x, f.y, r.x, r.y)

pub space-q-requires : goal.space-q-requires
space-q-requires c =
    let f = piece c.args.sent.whole c.requires.x_le_coordinate in
    let r = fit_receiver c.args.r c.requires.fits.1 in
    (omega (arith, plan_most c.args.sent.whole c.args.r f r, c.plan-q0.ensures), omega (arith, r.low), omega (arith, r.high))

pub returns-then-q-lt-NEAREST : goal.returns-then-q-lt-NEAREST
returns-then-q-lt-NEAREST c =
    let a = c.args in
    let d = apart a.sent.whole a.r c.plan-q0.result c.space-q.result c.plan-q0.ensures c.space-q.ensures in
    let ws = a.walls.now in
    sym (one_barred a.sent.whole a.r (share_by ws a.sent.voices a.r) (two_walls ws a.r) Near (bar_near a.sent.whole a.r (omega (arith, d.space, c.if-q-lt-NEAREST.true))))

pub returns-then-q-gt-FARTHEST : goal.returns-then-q-gt-FARTHEST
returns-then-q-gt-FARTHEST c =
    let a = c.args in
    let d = apart a.sent.whole a.r c.plan-q0.result c.space-q.result c.plan-q0.ensures c.space-q.ensures in
    let ws = a.walls.now in
    sym (one_barred a.sent.whole a.r (share_by ws a.sent.voices a.r) (two_walls ws a.r) Far (bar_far a.sent.whole a.r (omega (arith, d.space, c.if-q-gt-FARTHEST.true))))

pub returns-then-q-long : goal.returns-then-q-long
returns-then-q-long c =
    let a = c.args in
    let d = apart a.sent.whole a.r c.plan-q0.result c.space-q.result c.plan-q0.ensures c.space-q.ensures in
    let ws = a.walls.now in
    sym (one_barred a.sent.whole a.r (share_by ws a.sent.voices a.r) (two_walls ws a.r) Long
    (bar_long a.sent.whole a.r (omega (arith, d.space, c.if-q-lt-NEAREST.false)) (omega (arith, d.space, c.if-q-gt-FARTHEST.false))
    (omega (arith, d.space, ap (λ (n : ℕ). 4 * square n) c.from-long.ensures, c.if-q-long.true))))

pub screened-requires-clause-fits : goal.screened-requires-clause-fits
screened-requires-clause-fits c =
    let f = piece c.args.sent.whole c.requires.x_le_coordinate in
    let g = fit_receiver c.args.r c.requires.fits.1 in
    (record { x = omega (arith, f.x); y = omega (arith, f.y) }, record { x = omega (arith, g.x); y = omega (arith, g.y) })

pub screened-requires-clause-q0_value : goal.screened-requires-clause-q0_value
unfolding plan_square
screened-requires-clause-q0_value c =
    let g = fit_receiver c.args.r c.requires.fits.1 in
    (c.plan-q0.ensures, reaches c.args.r c.plan-q0.result c.space-q.result g c.space-q.ensures (omega (arith, c.if-q-lt-NEAREST.false)) (omega (arith, c.if-q-gt-FARTHEST.false)))

pub returns-in_err-screening : goal.returns-in_err-screening
returns-in_err-screening c =
    let a = c.args in
    let p = err_from_is_err_and c.from_residual.result c.from_residual.ensures.1 in
    let l = c.in_err-screening.ensures in
    let d = apart a.sent.whole a.r c.plan-q0.result c.space-q.result c.plan-q0.ensures c.space-q.ensures in
    let t = taken a.walls.now a.sent.whole a.r c.plan-q0.result c.space-q.result c.screened.result d c.screened.ensures.0 in
    let k = placed a.sent.whole a.r c.plan-q0.result c.space-q.result d (omega (arith, c.if-q-lt-NEAREST.false)) (omega (arith, c.if-q-gt-FARTHEST.false))
    (omega (arith, ap (λ (n : ℕ). 4 * square n) c.from-long.ensures, c.if-q-long.false)) in
    p.1 ∙ ap {B = Pair} Err (p.2 ∙ why_is c.screened.result _ l.value l.ok_part)
    ∙ sym (one_walled a.sent.whole a.r a.walls.now a.sent.voices k (sym t ∙ l.ok_part))

pub overflow_add-r : goal.overflow_add-r
overflow_add-r c = omega (arith, (fit_receiver c.args.r c.requires.fits.1).high)

pub hear-requires-clause-fits : goal.hear-requires-clause-fits
hear-requires-clause-fits c =
    let r = fit_receiver c.args.r c.requires.fits.1 in
    let near = c.if-q-lt-NEAREST.false in
    let far = c.if-q-gt-FARTHEST.false in
    let e = reaches c.args.r c.plan-q0.result c.space-q.result r c.space-q.ensures (omega (arith, near)) (omega (arith, far)) in
    (c.requires.fits.0, e.some, e.rises, omega (arith, far), omega (arith, r.high, c.from-h.ensures))

pub hear-requires-clause-up_bound : goal.hear-requires-clause-up_bound
hear-requires-clause-up_bound c =
    let a = c.args in
    let f = piece a.sent.whole c.requires.x_le_coordinate in
    let r = fit_receiver a.r c.requires.fits.1 in
    let l = small_length a.sent.whole.length f.some f.short in
    let d = subst (λ (l : Loss). IfSome l (λ n. n ≤ 6000)) c.in_ok-screening.ensures.ok_part c.screened.ensures.1 in
    (rw c.requires.fits.2 l.up, rw c.requires.fits.2 l.down, d)

pub returns : goal.returns
returns c =
    let a = c.args in
    let l = c.in_ok-screening.ensures in
    let d = apart a.sent.whole a.r c.plan-q0.result c.space-q.result c.plan-q0.ensures c.space-q.ensures in
    let t = taken a.walls.now a.sent.whole a.r c.plan-q0.result c.space-q.result c.screened.result d c.screened.ensures.0 in
    let k = placed a.sent.whole a.r c.plan-q0.result c.space-q.result d (omega (arith, c.if-q-lt-NEAREST.false)) (omega (arith, c.if-q-gt-FARTHEST.false))
    (omega (arith, ap (λ (n : ℕ). 4 * square n) c.from-long.ensures, c.if-q-long.false)) in
    c.hear.ensures ∙ (λ i. hear_of a.sent.voices (c.requires.fits.2 i) (d.plan i) (d.space i) (c.from-h.ensures i) c.in_ok-screening.screening)
    ∙ sym (one_heard a.sent.whole a.r a.walls.now a.sent.voices k c.in_ok-screening.screening (sym t ∙ l.ok_part))
