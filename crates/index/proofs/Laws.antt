-- Bounds: the level of a sum is at most 117.09 dB, the energies of the three periods add up to less than 2^64, and no index is above 200 dB.
-- Assumes nothing.
use Rattle.std.specs.Prelude.{Some, None}
use mathlib.Core.Path.{◌≡◌, refl, sym, ap, subst}
use Prim.Native.Nat.{ℕ, ◌+◌, ◌^◌, ◌≤◌, ◌<◌}
use native.Mathlib.Decide.{dec_lt}
use native.Mathlib.Omega.{arith}
use Rattle.level.specs.Table.{table, first_quarter, second_quarter, third_quarter, fourth_quarter}
use Rattle.level.specs.Level.{energy_of, level_of, loudness_of}
use Rattle.level.specs.Level.{Loudness}
use Rattle.level.proofs.Laws.{level_below, level_reached, energy_rises, energy_decade, heard_quiet, heard_level}
use Rattle.level.specs.Level.{top}
use Rattle.index.specs.Index.{Index}
use Rattle.index.specs.Index.{level_in, tenths_of, lift, lifted_of, lnight_of, day_evening_night, lden_of}

-- three entries of the table, worked out
pub loudest : energy_of 11710 ≡ 512861400000000000
unfolding energy_of table first_quarter second_quarter third_quarter fourth_quarter
loudest = refl

pub evening_most : energy_of 12209 ≡ 1618080000000000000
unfolding energy_of table first_quarter second_quarter third_quarter fourth_quarter
evening_most = refl

pub night_most : energy_of 12709 ≡ 5116818000000000000
unfolding energy_of table first_quarter second_quarter third_quarter fourth_quarter
night_most = refl

-- what is heard of a sum, case by case
heard_cases : (P : Loudness → Type 0) (s : ℕ) → (s < 1000000 → P None) → (1000000 ≤ s → P (Some (level_of s))) → P (loudness_of s)
heard_cases P s f g = go (dec_lt s 1000000)
  where
    go : Dec (s < 1000000) → P (loudness_of s)
    go (yes h) = subst P (sym (heard_quiet s h)) (f h)
    go (no h) = let k : 1000000 ≤ s = omega arith in subst P (sym (heard_level s k)) (g k)

pub level_small : (s : ℕ) → s ≤ top → level_in (loudness_of s) ≤ 11709
level_small s h = heard_cases (λ x. level_in x ≤ 11709) s (λ k. omega arith) (λ k. omega (arith, level_below s 11710 k (omega (arith, loudest))))

-- of any number of 64 bits
pub level_any : (s : ℕ) → s < 2 ^ 64 → level_in (loudness_of s) < 20000
level_any s h = heard_cases (λ x. level_in x < 20000) s (λ k. omega arith) (λ k. omega (arith, level_below s 14000 k (omega (arith, energy_decade 14))))

-- a period's energy is at most that of the loudest level with its addition
pub lifted_most : (n s : ℕ) → s ≤ top → lifted_of n s ≤ energy_of (11709 + n)
lifted_most n s h =
    heard_cases (λ x. lift n x ≤ energy_of (11709 + n)) s (λ k. omega arith)
    (λ k. energy_rises (level_of s + n) (11709 + n) (omega (arith, level_below s 11710 k (omega (arith, loudest)))))

-- and by day, where nothing is added, at most the sum itself
pub lifted_day : (s : ℕ) → s ≤ top → lifted_of 0 s ≤ top
lifted_day s h =
    heard_cases (λ x. lift 0 x ≤ top) s (λ k. omega arith)
    (λ k. let e : level_of s + 0 ≡ level_of s = omega arith in omega (arith, ap energy_of e, (level_reached s k).has))

-- in the evening, and at night, by what is added at most
pub lifted_evening : (n s : ℕ) → n ≤ 500 → s ≤ top → lifted_of n s ≤ 1618080000000000000
lifted_evening n s l h = omega (arith, lifted_most n s h, energy_rises (11709 + n) 12209 (omega arith), evening_most)

pub lifted_night : (n s : ℕ) → n ≤ 1000 → s ≤ top → lifted_of n s ≤ 5116818000000000000
lifted_night n s l h = omega (arith, lifted_most n s h, energy_rises (11709 + n) 12709 (omega arith), night_most)

-- ---- an index is at most 200 dB, where the sums are within their bound

abbrev pub Small : Index → Type 0
Small None = Unit {0}
Small (Some n) = n ≤ 2000

tenths_small : (x : Loudness) → level_in x < 20000 → Small (tenths_of x)
tenths_small None h = tt
tenths_small (Some l) h = omega arith

pub lnight_small : (night : ℕ) → night ≤ top → Small (lnight_of night)
lnight_small night h = tenths_small (loudness_of night) (omega (arith, level_small night h))

pub lden_small : (day evening night : ℕ) → day ≤ top → evening ≤ top → night ≤ top → Small (lden_of day evening night)
lden_small day evening night h k l =
    tenths_small (loudness_of (day_evening_night day evening night))
    (level_any (day_evening_night day evening night)
    (omega (arith, lifted_day day h, lifted_evening 500 evening (omega arith) k, lifted_night 1000 night (omega arith) l)))
