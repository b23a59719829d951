-- `share` is the energy of a voice's level at a point, below zero too, and too loud above 90 dB. Assumes nothing.
use mathlib.Core.Path.{◌≡◌, sym, ap, ◌∙◌, subst}
use Prim.Native.Nat.{ℕ, ◌+◌, ◌≤◌}
use native.Mathlib.Omega.{arith}
use Rattle.std.specs.Prelude.{Some, Ok}
use Rattle.road.specs.declared.Term.{Term}
use Rattle.road.specs.Results.{Voice, Part}
use Rattle.road.specs.Term.{◌⊕◌}
use Rattle.road.specs.Reach.{weather_term}
use Rattle.road.specs.Inner.{voiced_part, Modest}
use Rattle.road.proofs.Sums.{part_silent, part_loud, part_heard}
use Rattle.road.proofs.Pairs.{weather_most}
use Rattle.reach.proofs.share.Goals as goal

-- what is taken off fits
down_most : (l way : Term) (c h near w : ℕ) → Modest (Some l) → way.down ≤ 100000 → c ≤ 1000 → w ≡ (weather_term c h near).down
    → l.down + way.down + w ≤ 300000
down_most l way c h near w m a b e = omega (arith, m.down, a, b, e, weather_most c h near)

-- the two sides of the level at the point
up_is : (l way : Term) (c h near : ℕ) → l.up + way.up ≡ l.up + (way ⊕ weather_term c h near).up
unfolding weather_term
up_is l way c h near = omega arith

down_is : (l way : Term) (c h near w : ℕ) → w ≡ (weather_term c h near).down → l.down + way.down + w ≡ l.down + (way ⊕ weather_term c h near).down
down_is l way c h near w e = omega (arith, e)

pub returns-in_default : goal.returns-in_default
returns-in_default c =
    let t = c.args.way ⊕ weather_term c.args.c c.args.h c.args.near in
    sym (ap (λ (v : Voice). voiced_part v t) c.in_default.is ∙ part_silent t)

pub overflow_add-down-2 : goal.overflow_add-down-2
overflow_add-down-2 c =
    let a = c.args in
    omega (arith, down_most c.in-Some.sent a.way a.c a.h a.near c.weather.result (subst Modest c.in-Some.is c.requires.fits.0) c.requires.fits.2 c.requires.c_bound.0 c.weather.ensures)

pub overflow_add-down-3 : goal.overflow_add-down-3
overflow_add-down-3 c =
    let a = c.args in
    omega (arith, down_most c.in-Some.sent a.way a.c a.h a.near c.weather.result (subst Modest c.in-Some.is c.requires.fits.0) c.requires.fits.2 c.requires.c_bound.0 c.weather.ensures)

pub returns-then-down-up : goal.returns-then-down-up
returns-then-down-up c =
    let a = c.args in
    let l = c.in-Some.sent in
    let t = a.way ⊕ weather_term a.c a.h a.near in
    sym (ap (λ (v : Voice). voiced_part v t) c.in-Some.is
    ∙ part_loud l t _ _ (up_is l a.way a.c a.h a.near) (down_is l a.way a.c a.h a.near c.weather.result c.weather.ensures) (omega (arith, c.if-down-up.true)))

pub returns : goal.returns
returns c =
    let a = c.args in
    let l = c.in-Some.sent in
    let t = a.way ⊕ weather_term a.c a.h a.near in
    ap {B = Part} Ok c.energy_at.ensures
    ∙ sym (ap (λ (v : Voice). voiced_part v t) c.in-Some.is
    ∙ part_heard l t _ _ (up_is l a.way a.c a.h a.near) (down_is l a.way a.c a.h a.near c.weather.result c.weather.ensures) (omega (arith, c.if-down-up.false)))
