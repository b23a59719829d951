-- All the figures that are proved are those on paper: one test, computed over one table; and by them the pairs of the 25 m case and of the 100 m case.
-- Assumes nothing.
use Rattle.std.specs.Prelude.{Ok}
use mathlib.Core.Path.{◌≡◌, refl, ap, ◌∙◌}
use mathlib.Core.Bool.{Bool, true, false, ◌&&◌, ◌||◌}
use mathlib.Core.List.{List, [], ◌∷◌}
use Prim.Native.Nat.{ℕ, zero, suc, ◌-◌, ◌≤◌}
use native.Mathlib.Omega.{arith}
use lib.Dec.{T, eqb}
use lib.ListN.{get_or}
use borrow.Author.Tests.{eqb-true, le-ltb}
use Rattle.level.specs.Table.{table, first_quarter, second_quarter, third_quarter, fourth_quarter}
use Rattle.level.specs.Level.{energy_of, tens_below, energy_at, level_of, up_to, decades}
use Rattle.level.proofs.Signs.{energy_from_zero}
use Rattle.level.specs.Figures.{Figure, right, levels}
use Rattle.screen.specs.Plan.{around, fraction_of}
use Rattle.screen.specs.Section.{section_of, h_d, gamma, lift, z, Dz}
use Rattle.screen.specs.Screen.{between, met_of, loss_of}
use Rattle.screen.specs.Figures.{screens}
use Rattle.road.specs.declared.Term.{Term}
use Rattle.road.specs.declared.Shares.{Shares}
use Rattle.road.specs.Judge.{rest_verdict, source_verdict, receiver_verdict}
use Rattle.root.specs.Root.{root_of, rooted}
use Rattle.road.specs.Emission.{traffic_term, car_level, truck_level, speed_term, surface_term, gradient_term, reflection_term}
use Rattle.road.specs.Reach.{plan_square, space_square, length_term, distance_term, ground_term, screen_between, two_walls, obstacle_term, walls_term, weather_term, share_level, energy_share, too_loud, share_of, loud_in, shares_of, pair_of, loudest}
use Rattle.road.specs.Figures.{piece, road, home, roads, figures}
use Rattle.road.proofs.Pairs.{pair_heard}

pub figures_right : T (right figures)
unfolding right figures levels roads screens table first_quarter second_quarter third_quarter fourth_quarter energy_of tens_below energy_at level_of up_to decades root_of rooted traffic_term car_level truck_level speed_term surface_term gradient_term reflection_term plan_square space_square length_term distance_term ground_term screen_between loss_of met_of between obstacle_term walls_term weather_term share_level around fraction_of section_of h_d gamma lift z Dz
figures_right = tt

-- ---- a figure by its place in the table

nothing : Figure
nothing = record { defined = 0; on_paper = 0 }

figure : (l : List Figure) (i : ℕ) → T (right l) → (get_or l i nothing).defined ≡ (get_or l i nothing).on_paper
unfolding right nothing
figure [] i t = refl
figure (f ∷ l) i t = go (eqb f.defined f.on_paper) refl t (figure l) i
  where
    go : (b : Bool) → eqb f.defined f.on_paper ≡ b → T (b && right l)
        → ((i : ℕ) → T (right l) → (get_or l i nothing).defined ≡ (get_or l i nothing).on_paper)
        → (i : ℕ) → (get_or (f ∷ l) i nothing).defined ≡ (get_or (f ∷ l) i nothing).on_paper
    go true e t ih zero = eqb-true _ _ e
    go true e t ih (suc i) = ih i t
    go false e t ih i = absurd t

abbrev level : ℕ → ℕ → Term
level x period = share_level [] (road x) (piece x) home period

abbrev above : Term → ℕ
above t = t.up - t.down

energy : (t : Term) (n : ℕ) → above t ≡ suc n → energy_share t ≡ energy_of (suc n)
unfolding energy_share
energy t n e = energy_from_zero t.up t.down (omega arith) ∙ ap energy_of e

soft : (t : Term) (n : ℕ) → above t ≡ n → n ≤ loudest → too_loud t ≡ false
soft t n e h = le-ltb loudest (above t) (omega arith)

pub near_allowed : source_verdict (road 102500) ≡ Ok tt
unfolding source_verdict rest_verdict car_level truck_level level_of up_to decades table first_quarter second_quarter third_quarter fourth_quarter
near_allowed = refl

pub far_allowed : source_verdict (road 110000) ≡ Ok tt
unfolding source_verdict rest_verdict car_level truck_level level_of up_to decades table first_quarter second_quarter third_quarter fourth_quarter
far_allowed = refl

pub home_allowed : receiver_verdict home ≡ Ok tt
unfolding receiver_verdict
home_allowed = refl

-- ---- the pair of the road at x and the point, by the share levels of the three periods

abbrev shares_at : ℕ → ℕ → ℕ → Shares
shares_at d e n = record { day = energy_of (suc d); evening = energy_of (suc e); night = energy_of (suc n) }

module _ (x d e n : ℕ) (day : above (level x 0) ≡ suc d) (evening : above (level x 1) ≡ suc e) (night : above (level x 2) ≡ suc n) where
  quiet : suc d ≤ loudest → suc e ≤ loudest → suc n ≤ loudest
      → (loud_in [] (road x) (piece x) home 0 || loud_in [] (road x) (piece x) home 1 || loud_in [] (road x) (piece x) home 2) ≡ false
  unfolding loud_in
  quiet f g h = rw (soft (level x 0) (suc d) day f, soft (level x 1) (suc e) evening g, soft (level x 2) (suc n) night h)

  shares_are : shares_of [] (road x) (piece x) home ≡ shares_at d e n
  unfolding shares_of share_of
  shares_are = λ i. record { day = energy (level x 0) d day i; evening = energy (level x 1) e evening i; night = energy (level x 2) n night i }

no_walls : (x : ℕ) → two_walls [] home (piece x) ≡ false
unfolding screen_between loss_of met_of between
no_walls x = refl

-- the 25 m case: the road brings 60.28 dB by day and in the evening, and 50.28 dB at night
near_apart : space_square (piece 102500) home ≡ 6372500
unfolding space_square plan_square
near_apart = refl

pub near_pair : pair_of [] (road 102500) home ≡ Ok (shares_at 6027 6027 5027)
unfolding figures levels roads
near_pair =
    let day = figure figures 25 figures_right in
    let evening = figure figures 26 figures_right in
    let night = figure figures 27 figures_right in
    pair_heard [] (road 102500) (piece 102500) home refl (omega (arith, near_apart)) (omega (arith, near_apart)) (omega (arith, near_apart)) (no_walls 102500)
    (quiet 102500 6027 6027 5027 day evening night (omega arith) (omega arith) (omega arith))
    ∙ ap Ok (shares_are 102500 6027 6027 5027 day evening night)

-- the same road 100 m away: 42.93, 43.48 and 34.03 dB
far_apart : space_square (piece 110000) home ≡ 100122500
unfolding space_square plan_square
far_apart = refl

pub far_pair : pair_of [] (road 110000) home ≡ Ok (shares_at 4292 4347 3402)
unfolding figures levels roads
far_pair =
    let day = figure figures 28 figures_right in
    let evening = figure figures 29 figures_right in
    let night = figure figures 30 figures_right in
    pair_heard [] (road 110000) (piece 110000) home refl (omega (arith, far_apart)) (omega (arith, far_apart)) (omega (arith, far_apart)) (no_walls 110000)
    (quiet 110000 4292 4347 3402 day evening night (omega arith) (omega arith) (omega arith))
    ∙ ap Ok (shares_are 110000 4292 4347 3402 day evening night)
