-- How the calculation goes on in columns: the line of a number at a place, the next one, the last one; and that all of it fits 64 bits.
-- Assumes nothing.
use mathlib.Core.Path.{◌≡◌, refl, sym, ap, ◌∙◌}
use Prim.Native.Nat.{ℕ, zero, suc, ◌+◌, ◌-◌, ◌*◌, ◌/◌, ◌%◌, ◌^◌, ◌≤◌, ◌<◌}
use native.Mathlib.Nat.{one-le-pow, pow-succ', lt_of_le_of_lt, mul_comm, mul_assoc, add-mul, mul-le-mul_left, mul-le-mul_right, mul-add-mod_self_right, div-div-eq-div-mul, div-lt_iff_lt-mul, div-one, mod-one, mul-one, mod-lt, div-add-mod', div-eq_of_lt, mod-eq_of_lt, le_trans, le_of_eq}
use native.Mathlib.Omega.{arith}
use lib.Pow.{pow-add}
use Rattle.root.specs.declared.Line.{Line}
use Rattle.root.specs.Root.{line, step, line_of, root_of, pairs_of, step_at, in_columns}
use Rattle.root.proofs.Laws.{line_is, root_is, rooted_zero, in_columns_lem}
use Rattle.root.proofs.Pairs.{pairs_is, room_le, next_place}

-- the line of q at a place: that of the bits brought down, and behind it the bits to come
abbrev pub standing : ℕ → ℕ → Line
standing q place = in_columns place (line_of (q / place)) (q % place)

-- q has so many times four places, so many places and the rest
rest_of : (q place : ℕ) → 0 < place → q % (4 * place) ≡ q / place % 4 * place + q % place
rest_of q place h =
    ap (◌% (4 * place)) whole ∙ mul-add-mod_self_right (q / place / 4) (4 * place) (two * place + q % place) ∙ mod-eq_of_lt small
  where
    two : ℕ
    two = q / place % 4

    split : q / place ≡ q / place / 4 * 4 + two
    split = sym (div-add-mod' (q / place) 4)

    whole : q ≡ q / place / 4 * (4 * place) + (two * place + q % place)
    whole =
        let a : q / place * place ≡ q / place / 4 * 4 * place + two * place = ap (◌* place) split ∙ add-mul (q / place / 4 * 4) two place in
        omega (arith, a, div-add-mod' q place, mul_assoc (q / place / 4) 4 place)

    small : two * place + q % place < 4 * place
    small =
        let a : two ≤ 3 = omega arith in
        omega (arith, mul-le-mul_right place a, mod-lt q h)

-- the step takes it to the next place
pub standing_next : (q place : ℕ) → 0 < place → step_at place (standing q (4 * place)) ≡ standing q place
standing_next q place h =
    ap (λ (n : ℕ). step_at place (in_columns (4 * place) (line_of (q / (4 * place))) n)) (rest_of q place h)
    ∙ in_columns_lem place (q / place % 4) (q % place) (line_of (q / (4 * place))) (mod-lt q h)
    ∙ ap (λ (l : Line). in_columns place l (q % place)) (ap (λ (n : ℕ). step (q / place % 4) (line_of n)) (sym quarter) ∙ sym (line_is (q / place)))
  where
    quarter : q / place / 4 ≡ q / (4 * place)
    quarter = div-div-eq-div-mul q place 4 ∙ ap (q /◌) (mul_comm place 4)

-- before the first step, and after the last
pub standing_first : (q place : ℕ) → q < place → standing q place ≡ line q 0
standing_first q place h =
    let none : line_of (q / place) ≡ line 0 0 = ap line_of (div-eq_of_lt h) ∙ rooted_zero 0 in
    let left : 0 * place + q ≡ q = omega arith in
    let root : 0 * place ≡ 0 = omega arith in
    (λ i. in_columns place (none i) (mod-eq_of_lt h i)) ∙ (λ i. line (left i) (root i))

pub standing_last : (q : ℕ) → standing q 1 ≡ line_of q
standing_last q =
    let left : (line_of q).left * 1 + 0 ≡ (line_of q).left = omega arith in
    (λ i. in_columns 1 (line_of (div-one q i)) (mod-one q i)) ∙ (λ i. line (left i) (mul-one (line_of q).root i))

-- ---- all of it fits

self_square : (r : ℕ) → r ≤ r * r
self_square zero = omega arith
self_square (suc r) = le_trans (le_of_eq (sym (mul-one (suc r)))) (mul-le-mul_left (suc r) (omega arith))

-- the root so far at a place, and the place, are together at most what the number is below
pub standing_small : (q place most : ℕ) → 0 < place → q < most * place → (standing q place).root + place ≤ most * place
unfolding root_of
standing_small q place most h l =
    let a : q / place < most = (div-lt_iff_lt-mul {k = place} {x = q} {y = most} h).1 l in
    let b : (line_of (q / place)).root ≤ q / place = le_trans (self_square (line_of (q / place)).root) (root_is (q / place)).at_most in
    omega (arith, mul-le-mul_right {m = (line_of (q / place)).root + 1} {n = most} place (omega arith), add-mul (line_of (q / place)).root 1 place)

-- ---- the place

-- where the calculation of q stands, at the place to which the next step goes: k pairs are to come
pub record Stands (q place : ℕ) (l : Line) : Type 0 where
  pub k : ℕ
  pub within : k ≤ 32
  pub at : place ≡ 4 ^ k / 4
  pub stands : l ≡ standing q (4 ^ k)

-- a place that is not 0 is a power of 4, at which four places are the next power
place_at : (place k : ℕ) → 0 < place → place ≡ 4 ^ k / 4 → (j : ℕ) × (k ≡ suc j) × (place ≡ 4 ^ j)
place_at place zero h e = absurd (omega (arith, e))
place_at place (suc j) h e = (j, refl, e ∙ next_place j)

-- it stands at the place of a number that is not smaller, and there is nothing to do yet
pub stands_first : (q m place : ℕ) → q ≤ m → m < 2 ^ 64 → place ≡ 4 ^ pairs_of m / 4 → Stands q place (line q 0)
stands_first q m place l h e =
    let r = pairs_is m in
    record {
      k = pairs_of m;
      within = room_le m (pairs_of m) 32 r.least h;
      at = e;
      stands = sym (standing_first q (4 ^ pairs_of m) (lt_of_le_of_lt l r.above));
    }

module _ (q place : ℕ) (l : Line) (h : 0 < place) (s : Stands q place l) where
  -- after the step so many pairs are to come
  after : (j : ℕ) × (s.k ≡ suc j) × (place ≡ 4 ^ j)
  after = place_at place s.k h s.at

  abbrev j : ℕ
  j = after.0

  pos : 0 < 4 ^ j
  pos = one-le-pow j 4 (omega arith)

  power : 4 ^ s.k ≡ 4 * 4 ^ j
  power = ap (4 ^◌) after.1 ∙ pow-succ' 4 j

  stood : l ≡ standing q (4 * 4 ^ j)
  stood = s.stands ∙ ap (standing q) power

  -- the step and the next place
  pub stands_next : Stands q (place / 4) (step_at place l)
  stands_next =
      record {
        k = j;
        within = omega (arith, s.within, after.1);
        at = ap (◌/ 4) after.2;
        stands = (λ i. step_at (after.2 i) (stood i)) ∙ standing_next q (4 ^ j) pos;
      }

  -- the numbers of the step fit
  pub stands_fits : q < 2 ^ 64 → l.root + place < 2 ^ 64
  stands_fits b =
      let m : ℕ = 32 - s.k in
      let e : m + s.k ≡ 32 = omega (arith, s.within) in
      let all : 4 ^ m * (4 * 4 ^ j) ≡ 2 ^ 64 = ap (4 ^ m *◌) (sym power) ∙ sym (pow-add 4 m s.k) ∙ ap (4 ^◌) e in
      let small = standing_small q (4 * 4 ^ j) (4 ^ m) (omega (arith, pos)) (omega (arith, all, b)) in
      let r : l.root ≡ (standing q (4 * 4 ^ j)).root = ap (λ (x : Line). x.root) stood in
      omega (arith, small, all, r, after.2, pos)

-- where no place is left
pub stands_last : (q place : ℕ) (l : Line) → place ≤ 0 → Stands q place l → l ≡ line_of q
stands_last q place l h s = go s.k s.at s.stands
  where
    go : (k : ℕ) → place ≡ 4 ^ k / 4 → l ≡ standing q (4 ^ k) → l ≡ line_of q
    go zero e f = f ∙ standing_last q
    go (suc k) e f = absurd (omega (arith, e, next_place k, one-le-pow k 4 (omega arith)))
