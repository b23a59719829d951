-- Bounds of the section: its heights, the lift and the ways are small, whatever the wall. Assumes nothing.
use mathlib.Core.Path.{◌≡◌, sym, ◌∙◌, subst}
use Prim.Native.Nat.{ℕ, ◌+◌, ◌-◌, ◌*◌, ◌/◌, ◌≤◌, ◌<◌}
use native.Mathlib.Nat.{mul_comm, mul_assoc, le_trans, mul-le-mul_right, div-le_of_le-mul}
use native.Mathlib.Decide.{dec_le}
use native.Mathlib.Omega.{arith}
use borrow.Author.Tests.{le-leb, lt-leb, lt-ltb, le-ltb}
use Rattle.root.specs.Root.{root_of}
use Rattle.root.proofs.Laws.{root_is}
use Rattle.screen.specs.declared.plan.Ratio.{Ratio}
use Rattle.level.specs.Level.{lv_of}
use Rattle.level.proofs.Laws.{lv_most}
use Rattle.screen.specs.declared.section.Section.{Section}
use Rattle.screen.specs.declared.section.Detour.{Detour}
use Rattle.course.specs.Course.{apart}
use Rattle.screen.specs.Section.{Reaches, Upright, part_of, section_of, h_d, gamma, lift, slope, A, B, A', B', z, Dz, screening}
use Rattle.screen.proofs.Bounds.{times, under_root}

-- ---- roots

pub root_most : (q m : ℕ) → q ≤ m * m → root_of q ≤ m
root_most q m h = under_root (root_of q) m (le_trans (root_is q).at_most h)

pub root_some : (q : ℕ) → 1 ≤ q → 1 ≤ root_of q
root_some q h = go (dec_le 1 (root_of q))
  where
    go : Dec (1 ≤ root_of q) → 1 ≤ root_of q
    go (yes l) = l
    go (no l) =
        let e : root_of q ≡ 0 = omega arith in
        let a : q < (root_of q + 1) * (root_of q + 1) = (root_is q).above in
        let b : q < (0 + 1) * (0 + 1) = subst (λ (n : ℕ). q < (n + 1) * (n + 1)) e a in
        absurd (omega arith)

pub slope_most : (along up : ℕ) → along ≤ 2000000 → up ≤ 3000000 → slope along up ≤ 4000000
slope_most along up h l =
    root_most (along * along + up * up) 4000000
    (omega (arith, times along along 2000000 2000000 h h, times up up 3000000 3000000 l l))

-- ---- the two parts of the plan line

pub part_most : (f : Ratio) (s0 : ℕ) → f.num < f.den → part_of f s0 ≤ s0
part_most f s0 h = div-le_of_le-mul f.den (mul-le-mul_right s0 (omega arith))

-- ---- equation 17: the ray is nowhere higher than the receiver

pub h_d_most : (c : Section) → Upright c → h_d c ≤ c.h
unfolding h_d
h_d_most c u =
    let l : c.a * (c.h - 500) / c.s0 ≤ c.h - 500 = div-le_of_le-mul c.s0 (mul-le-mul_right (c.h - 500) u.before) in
    omega (arith, u.low)

-- ---- equations 19 and 18: the lift is no longer than the ray

pub gamma_is : (s : ℕ) → s ≤ 2000000 → (1000000 ≤ gamma s) × (gamma s ≤ 16000000)
unfolding gamma
gamma_is s h = go (dec_le s 125000)
  where
    go : Dec (s ≤ 125000) → (1000000 ≤ gamma s) × (gamma s ≤ 16000000)
    go (yes l) = rw (le-leb s 125000 l) (omega arith, omega arith)
    go (no l) = let m : 125000 < s = omega arith in rw (lt-leb s 125000 m) (omega arith, omega arith)

abbrev pub flat : Section → ℕ
flat c = c.a * c.b * c.s / (2 * gamma c.s * c.s0)

pub flat_most : (c : Section) → Upright c → flat c ≤ c.s0
flat_most c u =
    let g : 1000000 ≤ gamma c.s = (gamma_is c.s u.space).0 in
    let t : c.a * c.b * c.s ≤ c.s0 * c.s0 * (2 * gamma c.s) =
    times (c.a * c.b) c.s (c.s0 * c.s0) (2 * gamma c.s) (times c.a c.b c.s0 c.s0 u.before u.behind) (omega (arith, u.space)) in
    let e : c.s0 * c.s0 * (2 * gamma c.s) ≡ 2 * gamma c.s * c.s0 * c.s0 =
    mul_comm (c.s0 * c.s0) (2 * gamma c.s) ∙ sym (mul_assoc (2 * gamma c.s) c.s0 c.s0) in
    div-le_of_le-mul (2 * gamma c.s * c.s0) (omega arith)

pub lift_most : (c : Section) → Upright c → lift c ≤ c.s
unfolding lift
lift_most c u = div-le_of_le-mul c.s0 (mul-le-mul_right c.s (flat_most c u))

-- ---- equation 16: the ways

pub through_most : (c : Section) → Upright c → h_d c + lift c ≤ 2010000
through_most c u = omega (arith, h_d_most c u, lift_most c u, u.high, u.space)

pub record Ways (c : Section) : Type 0 where
  pub a : A c ≤ 4000000
  pub b : B c ≤ 4000000
  pub a' : A' c ≤ 4000000
  pub b' : B' c ≤ 4000000

pub ways_most : (c : Section) → Upright c → Ways c
ways_most c u =
    let a : c.a ≤ 2000000 = omega (arith, u.before, u.plan) in
    let b : c.b ≤ 2000000 = omega (arith, u.behind, u.plan) in
    let t : h_d c + lift c ≤ 2010000 = through_most c u in
    record {
      a = slope_most c.a (apart c.edge 500) a (omega (arith, u.edge));
      b = slope_most c.b (apart c.edge c.h) b (omega (arith, u.edge, u.high));
      a' = slope_most c.a (apart (h_d c + lift c) 500) a (omega arith);
      b' = slope_most c.b (apart (h_d c + lift c) c.h) b (omega (arith, u.high));
    }

pub z_most : (c : Section) → Upright c → ((z c).over ≤ 10000000) × ((z c).through ≤ 20000000)
unfolding z
z_most c u = let w = ways_most c u in (omega (arith, w.a, w.b), omega (arith, w.a', w.b'))

-- ---- equation 15, by cases

pub off_some : (d : Detour) → d.through ≤ d.over + 33 → Dz d ≡ lv_of (3000 + 60 * d.over - 60 * d.through) - 3000
unfolding Dz
off_some d h = rw (le-leb d.through (d.over + 33) h)

pub off_none : (d : Detour) → d.over + 33 < d.through → Dz d ≡ 0
unfolding Dz
off_none d h = rw (lt-leb d.through (d.over + 33) h)

-- with less than 10 km over the edge it is less than 60 dB
pub off_most : (d : Detour) → d.over ≤ 10000000 → Dz d < 6000
off_most d h = go (dec_le d.through (d.over + 33))
  where
    go : Dec (d.through ≤ d.over + 33) → Dz d < 6000
    go (yes l) =
        let m : lv_of (3000 + 60 * d.over - 60 * d.through) < 9000 = lv_most 9 (3000 + 60 * d.over - 60 * d.through) (omega arith) (omega arith) in
        rw (off_some d l) (omega arith)
    go (no l) = let k : d.over + 33 < d.through = omega arith in rw (off_none d k) (omega arith)

pub screening_none : (c : Section) → c.edge < h_d c → screening c ≡ 0
unfolding screening
screening_none c h = rw (lt-ltb c.edge (h_d c) h)

pub screening_some : (c : Section) → h_d c ≤ c.edge → screening c ≡ Dz (z c)
unfolding screening
screening_some c h = rw (le-ltb c.edge (h_d c) h)

pub screening_most : (c : Section) → Upright c → screening c < 6000
screening_most c u = go (dec_le (h_d c) c.edge)
  where
    go : Dec (h_d c ≤ c.edge) → screening c < 6000
    go (yes l) = rw (screening_some c l) (off_most (z c) (z_most c u).0)
    go (no l) = let k : c.edge < h_d c = omega arith in rw (screening_none c k) (omega arith)

-- ---- the section that the code cuts is upright

pub section_upright : (q0 q : ℕ) (f : Ratio) (height wall : ℕ)
    → Reaches height q0 q → f.num < f.den → wall ≤ 2000 → Upright (section_of q0 q f height wall)
unfolding section_of
section_upright q0 q f height wall e n w =
    record {
      some = root_some (100 * q0) (omega (arith, e.some));
      plan = root_most (100 * q0) 2000000 (omega (arith, e.rises, e.near));
      space = root_most (100 * q) 2000000 (omega (arith, e.near));
      before = part_most f (root_of (100 * q0)) n;
      behind = omega arith;
      low = omega (arith, e.low);
      high = omega (arith, e.high);
      edge = omega arith;
    }
