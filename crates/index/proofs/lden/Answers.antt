-- `lden` puts the three periods' energies together, which 64 bits hold. Assumes nothing.
use mathlib.Core.Path.{◌≡◌, ap, ◌∙◌}
use Prim.Native.Nat.{ℕ, ◌+◌, ◌*◌, ◌/◌, ◌≤◌}
use native.Mathlib.Omega.{arith}
use Rattle.level.specs.Level.{Loudness, top, loudness_of}
use Rattle.index.specs.Index.{level_in, tenths_of, lift, lifted_of}
use Rattle.index.proofs.Laws.{level_small, level_any, lifted_day, lifted_evening, lifted_night}
use Rattle.index.proofs.lden.Goals as goal

-- the night's energy by the level that was told
night_told : (c night : ℕ) (late : Loudness) → c ≡ lift 1000 late → late ≡ loudness_of night → c ≡ lifted_of 1000 night
night_told c night late e f = e ∙ ap (lift 1000) f

-- the three energies
record Loud (a b c : ℕ) : Type 0 where
  day : a ≤ 512000000000000000
  evening : b ≤ 1618080000000000000
  night : c ≤ 5116818000000000000

loud : (a b c day evening night n : ℕ) → a ≡ lifted_of 0 day → b ≡ lifted_of n evening → n ≤ 500 → c ≡ lifted_of 1000 night
    → (day ≤ top) × (evening ≤ top) × (night ≤ top) → Loud a b c
loud a b c day evening night n e f l g h = record {
  day = omega (arith, e, lifted_day day h.0);
  evening = rw f (lifted_evening n evening l h.1);
  night = rw g (lifted_night 1000 night (omega arith) h.2);
}

pub raised-c-requires : goal.raised-c-requires
raised-c-requires c = (omega (arith, ap level_in c.requires.3, level_small c.args.night c.requires.2), omega arith)

pub overflow_mul-mean : goal.overflow_mul-mean
overflow_mul-mean c = let l = loud _ _ _ c.args.day c.args.evening c.args.night _ c.lifted-a.ensures c.lifted-b.ensures (omega arith) (night_told _ _ _ c.raised-c.ensures c.requires.3) (c.requires.0, c.requires.1, c.requires.2) in omega (arith, l)

pub overflow_add-mean : goal.overflow_add-mean
overflow_add-mean c = let l = loud _ _ _ c.args.day c.args.evening c.args.night _ c.lifted-a.ensures c.lifted-b.ensures (omega arith) (night_told _ _ _ c.raised-c.ensures c.requires.3) (c.requires.0, c.requires.1, c.requires.2) in omega (arith, l)

pub overflow_mul-mean-2 : goal.overflow_mul-mean-2
overflow_mul-mean-2 c = let l = loud _ _ _ c.args.day c.args.evening c.args.night _ c.lifted-a.ensures c.lifted-b.ensures (omega arith) (night_told _ _ _ c.raised-c.ensures c.requires.3) (c.requires.0, c.requires.1, c.requires.2) in omega (arith, l)

pub overflow_add-mean-2 : goal.overflow_add-mean-2
overflow_add-mean-2 c = let l = loud _ _ _ c.args.day c.args.evening c.args.night _ c.lifted-a.ensures c.lifted-b.ensures (omega arith) (night_told _ _ _ c.raised-c.ensures c.requires.3) (c.requires.0, c.requires.1, c.requires.2) in omega (arith, l)

pub in_tenths-requires : goal.in_tenths-requires
in_tenths-requires c =
    let l = loud _ _ _ c.args.day c.args.evening c.args.night _ c.lifted-a.ensures c.lifted-b.ensures (omega arith) (night_told _ _ _ c.raised-c.ensures c.requires.3) (c.requires.0, c.requires.1, c.requires.2) in
    rw c.level.ensures (level_any _ (omega (arith, l)))

pub returns : goal.returns
returns c =
    let n = night_told _ _ _ c.raised-c.ensures c.requires.3 in
    c.in_tenths.ensures ∙ ap tenths_of c.level.ensures ∙ (λ i. tenths_of (loudness_of ((3 * c.lifted-a.ensures i + c.lifted-b.ensures i + 2 * n i) / 6)))
