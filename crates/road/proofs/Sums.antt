-- How the terms add up: bounds of each, that the order of adding does not matter, and the share of a voice case by case.
-- Assumes nothing.
use mathlib.Core.Path.{◌≡◌, refl, sym, ap}
use mathlib.Core.Bool.{Bool, true, false, cond, ◌&&◌}
use mathlib.Core.List.{List, [], ◌∷◌}
use Prim.Native.Nat.{ℕ, zero, suc, ◌+◌, ◌-◌, ◌*◌, ◌/◌, ◌%◌, ◌≤◌, ◌<◌, min}
use native.Mathlib.Nat.{min-le_left}
use native.Mathlib.Omega.{arith}
use lib.ListN.{get_or}
use lib.Dec.{T, leb, ltb, eqb, leb→le}
use borrow.Author.Tests.{lt-ltb, le-ltb, eq-eqb}
use Rattle.level.specs.Level.{energy_at}
use Rattle.level.proofs.Every.{and_left, and_right}
use Rattle.road.specs.declared.Term.{Term}
use Rattle.road.specs.declared.Traffic.{Traffic}
use Rattle.road.specs.declared.Source.{Source}
use Rattle.std.specs.Prelude.{Some, None, Ok, Err}
use Rattle.road.specs.declared.Bar.TheVariants.{Loud}
use Rattle.road.specs.Results.{Voice}
use Rattle.road.specs.declared.Pace.{Pace}
use Rattle.road.specs.Term.{◌⊕◌, period}
use Rattle.road.specs.Emission.{vehicles, traffic_term, car_speed, truck_speed, truck_gain, speed_term, surface_table, surface_column, surface_entry, surface_term, gradient_term, reflection_table, reflection_term}
use Rattle.road.specs.Reach.{length_term, walls_term, energy_share, loudest}
use Rattle.road.specs.Limits.{longest, most_vehicles, all_trucks}
use Rattle.road.specs.Inner.{pace_of, speed_by, steady_term, silent, voice_by, voice_of, voices_of, voiced_part, Modest, Moderate}
use Rattle.road.proofs.Bounds.{times, lv_small, car_most, gain_small, gain_energy}
use Rattle.road.proofs.Fit.{FitTraffic, FitSource}

-- two terms are the same if both sides are
pub term_eq : (s t : Term) → s.up ≡ t.up → s.down ≡ t.down → s ≡ t
term_eq s t e f = λ i. record { up = e i; down = f i }

-- ---- bounds

-- no entry of a list is above b
abbrev none_above : ℕ → List ℕ → Bool
none_above b [] = true
none_above b (x ∷ xs) = leb x b && none_above b xs

entry_below : (b : ℕ) (xs : List ℕ) → T (none_above b xs) → (i : ℕ) → get_or xs i 0 ≤ b
entry_below b [] t i = omega arith
entry_below b (x ∷ xs) t zero = leb→le x b (and_left (leb x b) _ t)
entry_below b (x ∷ xs) t (suc i) = entry_below b xs (and_right (leb x b) _ t) i

abbrev none_above_in : ℕ → List (List ℕ) → Bool
none_above_in b [] = true
none_above_in b (r ∷ rs) = none_above b r && none_above_in b rs

table_below : (b : ℕ) (rs : List (List ℕ)) → T (none_above_in b rs) → (i j : ℕ) → get_or (get_or rs i []) j 0 ≤ b
table_below b [] t i j = omega arith
table_below b (r ∷ rs) t zero j = entry_below b r (and_left (none_above b r) _ t) j
table_below b (r ∷ rs) t (suc i) j = table_below b rs (and_right (none_above b r) _ t) i j

-- a term of which neither side is above n
pub record Small (n : ℕ) (t : Term) : Type 0 where
  pub up : t.up ≤ n
  pub down : t.down ≤ n

small_cond : (n : ℕ) (b : Bool) (s t : Term) → Small n s → Small n t → Small n (cond b s t)
small_cond n true s t p q = p
small_cond n false s t p q = q

pub small_surface : (k v : ℕ) → Small 2000 (surface_term k v)
unfolding surface_term
small_surface k v =
    let e : surface_entry k v ≤ 2000 = table_below 2000 surface_table tt (k - 1) (surface_column v) in
    small_cond 2000 (leb k 5) _ _ (record { up = e; down = omega arith }) (record { up = omega arith; down = e })

pub small_gradient : (g : ℕ) → Small 600 (gradient_term g)
unfolding gradient_term
small_gradient g = record { up = go (ltb 50 (g % 128)); down = omega arith }
  where
    go : (b : Bool) → cond b (6 * (g % 128) - 300) 0 ≤ 600
    go true = omega arith
    go false = omega arith

pub small_reflection : (code : ℕ) → Small 2000 (reflection_term code)
unfolding reflection_term
small_reflection code = record { up = omega arith; down = entry_below 2000 reflection_table tt code }

pub small_walls : (k h w : ℕ) → Small 320 (walls_term k h w)
unfolding walls_term
small_walls k h w = record { up = go (eqb k 1) (eqb k 2); down = omega arith }
  where
    go : (a b : Bool) → cond a (min 320 (400 * h / w)) (cond b (min 160 (200 * h / w)) 0) ≤ 320
    go true b = min-le_left 320 (400 * h / w)
    go false true = omega (arith, min-le_left 160 (200 * h / w))
    go false false = omega arith

-- the traffic of a period that has any: twice the bound is still in the range of lv
pub record Weighed (t : Traffic) : Type 0 where
  pub some : 1 ≤ vehicles t
  pub half : 5 * vehicles t ≤ 9000000000000

pub weighed : (t : Traffic) → 1 ≤ t.m → t.m ≤ most_vehicles → t.p ≤ all_trucks → Weighed t
weighed t a b d = record {
  some = times 1 1 t.m (10000 + 82 * t.p) a (omega arith);
  half = omega (arith, times t.m (10000 + 82 * t.p) most_vehicles (10000 + 82 * all_trucks) b (omega arith));
}

pub small_traffic : (lanes : ℕ) (t : Traffic) → Weighed t → Small 20000 (traffic_term lanes t)
unfolding traffic_term
small_traffic lanes t w =
    small_cond 20000 (eqb lanes 1) _ _
    (record { up = omega (arith, lv_small (5 * vehicles t) (omega (arith, w.some)) (omega (arith, w.half))); down = omega arith })
    (record { up = omega (arith, lv_small (vehicles t) w.some (omega (arith, w.half))); down = omega arith })

pub record Paced (p : Pace) : Type 0 where
  pub car : p.car ≤ 20000
  pub gain : p.gain < 1000000000

pub small_speed : (pace : Pace) (p : ℕ) → Paced pace → p ≤ all_trucks → Small 40000 (speed_by pace p)
small_speed pace p h l =
    let g : pace.gain * p ≤ 1000000000 * all_trucks = times pace.gain p 1000000000 all_trucks (omega (arith, h.gain)) l in
    record {
      up = omega (arith, h.car, lv_small (1000000000 + pace.gain * p) (omega arith) (omega arith));
      down = omega (arith, lv_small (100000 + 823 * p) (omega arith) (omega arith));
    }

-- of a source with allowed fields
pub paced : (s : Source) → Paced (pace_of s)
paced s =
    let v : ℕ = car_speed s.car in
    let u : ℕ = truck_speed s.truck in
    record {
      car = omega (arith, car_most v (omega arith));
      gain = omega (arith, gain_energy (truck_gain v u) (gain_small v u (omega arith) (omega arith) (omega arith)));
    }

pub small_steady : (s : Source) → Small 20000 (steady_term s)
small_steady s =
    let a = small_surface s.surface (car_speed s.car) in
    let b = small_gradient s.gradient in
    let d = small_reflection s.reflection in
    let w = small_walls s.walls s.height s.spacing in
    record {
      up = omega (arith, a.up, b.up, d.up, w.up);
      down = omega (arith, a.down, b.down, d.down, w.down);
    }

pub small_length : (l : ℕ) → 1 ≤ l → l ≤ longest → Small 20000 (length_term l)
unfolding length_term
small_length l a b = record { up = omega (arith, lv_small l a (omega arith)); down = omega arith }

-- ---- the voice of a source

-- what is worked out apart is what the definition adds up in one row
pub voice_is : (s : Source) (i : ℕ) → voice_by s.lanes (pace_of s) (steady_term s) (period s i) ≡ voice_of s i
unfolding voice_of speed_term
voice_is s i = ap (cond (eqb (period s i).m 0) silent) (λ j. Some (same j))
  where
    t : Term
    t = traffic_term s.lanes (period s i)

    v : Term
    v = speed_by (pace_of s) (period s i).p

    a : Term
    a = surface_term s.surface (car_speed s.car)

    b : Term
    b = gradient_term s.gradient

    d : Term
    d = reflection_term s.reflection

    w : Term
    w = walls_term s.walls s.height s.spacing

    same : t ⊕ v ⊕ (a ⊕ b ⊕ d ⊕ w) ≡ t ⊕ v ⊕ a ⊕ b ⊕ d ⊕ w
    same = term_eq _ _ (omega arith) (omega arith)

modest_cond : (b : Bool) (v : Voice) → Modest v → Modest (cond b silent v)
modest_cond true v h = record { up = omega arith; down = omega arith }
modest_cond false v h = h

modest_some : (s : Source) (i m : ℕ) → FitTraffic (period s i).m (period s i).p → (period s i).m ≡ suc m → Modest (voice_by s.lanes (pace_of s) (steady_term s) (period s i))
modest_some s i m t e =
    let a = small_traffic s.lanes (period s i) (weighed (period s i) (omega arith) t.few t.part) in
    let b = small_speed (pace_of s) (period s i).p (paced s) t.part in
    let d = small_steady s in
    modest_cond (eqb (period s i).m 0) _
    (record { up = omega (arith, a.up, b.up, d.up); down = omega (arith, a.down, b.down, d.down) })

modest_none : (s : Source) (i : ℕ) → (period s i).m ≡ 0 → Modest (voice_by s.lanes (pace_of s) (steady_term s) (period s i))
modest_none s i e = rw (eq-eqb (period s i).m 0 e) (record { up = omega arith; down = omega arith })

pub modest : (s : Source) (i : ℕ) → FitTraffic (period s i).m (period s i).p → Modest (voice_of s i)
modest s i t = rw (← voice_is s i) (go (period s i).m refl)
  where
    go : (m : ℕ) → (period s i).m ≡ m → Modest (voice_by s.lanes (pace_of s) (steady_term s) (period s i))
    go zero e = modest_none s i e
    go (suc m) e = modest_some s i m t e

pub moderate : (s : Source) → FitSource s → Moderate (voices_of s)
unfolding voices_of
moderate s f = record { day = modest s 0 f.day; evening = modest s 1 f.evening; night = modest s 2 f.night }

-- ---- the share of a voice, case by case: u and d are the two sides of its level at the point

pub part_silent : (t : Term) → voiced_part None t ≡ Ok 0
unfolding voiced_part
part_silent t = refl

module _ (l t : Term) (u d : ℕ) (up : u ≡ l.up + t.up) (down : d ≡ l.down + t.down) where
  pub part_loud : loudest < u - d → voiced_part (Some l) t ≡ Err Loud
  unfolding voiced_part
  part_loud h = rw (lt-ltb loudest ((l ⊕ t).up - (l ⊕ t).down) (omega arith), voiced_part)

  pub part_heard : u - d ≤ loudest → voiced_part (Some l) t ≡ Ok (energy_at u d)
  unfolding voiced_part energy_share
  part_heard h =
      rw (le-ltb loudest ((l ⊕ t).up - (l ⊕ t).down) (omega arith), voiced_part, energy_share)
      (λ i. Ok (energy_at (sym up i) (sym down i)))
