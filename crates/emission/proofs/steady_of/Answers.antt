-- `steady_of` adds up the terms that no period and no point changes. Assumes nothing.
use mathlib.Core.Path.{◌≡◌, ap, ◌∙◌}
use Prim.Native.Nat.{ℕ}
use native.Mathlib.Omega.{arith}
use Rattle.road.specs.declared.Term.{Term}
use Rattle.road.specs.Emission.{surface_term, gradient_term, reflection_term}
use Rattle.road.specs.Reach.{walls_term}
use Rattle.road.proofs.Fit.{fit_source}
use Rattle.road.proofs.Sums.{Small, term_eq, small_surface, small_gradient, small_reflection, small_walls}
use Rattle.emission.proofs.steady_of.Goals as goal

pub surface-on-requires : goal.surface-on-requires
surface-on-requires c =
    let f = fit_source c.args.s c.requires in
    (f.paved, f.known)

-- the surface's term is small at any speed
small : (kind v : ℕ) (r : Term) → r ≡ surface_term kind v → Small 2000 r
small kind v r e = rw e (small_surface kind v)

pub overflow_add-up : goal.overflow_add-up
overflow_add-up c =
    let on = small c.args.s.surface c.car_speed.result c.surface-on.result c.surface-on.ensures in
    omega (arith, on.up, c.gradient.ensures, (small_gradient c.args.s.gradient).up)

pub walls-requires : goal.walls-requires
walls-requires c = (fit_source c.args.s c.requires).spaced

pub overflow_add-up-2 : goal.overflow_add-up-2
overflow_add-up-2 c =
    let s = c.args.s in
    let on = small s.surface c.car_speed.result c.surface-on.result c.surface-on.ensures in
    omega (arith, on.up, c.gradient.ensures, (small_gradient s.gradient).up, c.walls.ensures, (small_walls s.walls s.height s.spacing).up)

pub reflection-requires : goal.reflection-requires
reflection-requires c = (fit_source c.args.s c.requires).coded

pub overflow_add-down : goal.overflow_add-down
overflow_add-down c =
    let on = small c.args.s.surface c.car_speed.result c.surface-on.result c.surface-on.ensures in
    omega (arith, on.down, c.reflection.ensures, (small_reflection c.args.s.reflection).down)

pub returns : goal.returns
unfolding gradient_term reflection_term walls_term
returns c =
    let on = c.surface-on.ensures ∙ ap (surface_term c.args.s.surface) c.car_speed.ensures in
    term_eq _ _
    (omega (arith, ap (λ (t : Term). t.up) on, c.gradient.ensures, c.walls.ensures))
    (omega (arith, ap (λ (t : Term). t.down) on, c.reflection.ensures))
