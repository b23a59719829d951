-- The lengths of the lines of a sheet, and how its rows follow the calculation in columns.
-- Assumes nothing.
use Prim.Native.Nat.{ℕ, zero, suc, ◌+◌, ◌-◌, ◌*◌, ◌/◌, ◌%◌, ◌^◌, ◌≤◌, ◌<◌}
use mathlib.Core.Path.{◌≡◌, refl, sym, ap, ap₂, subst, ◌∙◌}
use mathlib.Core.List.{List, ◌++◌}
use native.Mathlib.Nat.{le_antisymm, le_of_eq, le_refl, le_trans, mul-one, mul-le-mul_left, one-le-pow, pow-suc, add-zero, div-div-eq-div-mul, div-eq_of_lt, div-one, mod-lt, mul-div_cancel, mul-add-div_right}
use native.Mathlib.Numerals.{add-one}
use native.Mathlib.Omega.{arith}
use lib.ListN.{length, length-append}
use Rattle.root.specs.declared.Line.{Line}
use Rattle.root.specs.Root.{line, line_of, root_of, pairs_of, step_at}
use Rattle.root.proofs.Laws.{left_is}
use Rattle.root.proofs.Pairs.{pairs_is, room_le, next_place}
use Rattle.root.proofs.Steps.{standing, Stands, stands_first, stands_next, stands_last}
use Rattle.text.specs.Text.{written}
use Rattle.longhand.specs.Sheet.{first_line, row, rows, last_line, sheet_of}
use Rattle.longhand.specs.Inner.{moved_right}
use Rattle.text.proofs.Decimal.{length_count}
use Rattle.text.specs.declared.Page.{Page}
use Rattle.text.specs.Page.{HasRoom, put_on}
use Rattle.text.proofs.Pages.{left, after, put_none}
use Rattle.longhand.proofs.Writing.{length_columns, length_short, length_term}

-- ---- lengths

pub length_first : (n q : ℕ) → length (first_line n q) ≡ 2 * n + 5
unfolding first_line
length_first n q = simp length-append (omega (arith, length_columns 32 4 0, length_columns 48 (2 * n) q))

length_row : (n i two : ℕ) (l : Line) → i ≤ n → n ≤ 32 → length (row n i two l) ≤ 103
unfolding row
length_row n i two l h k =
    simp length-append
    (omega (arith, length_columns 48 2 two, length_short (2 * i + 2) l.left (omega arith), length_columns 32 (2 * (n - i) + 2) 0, length_columns 48 i l.root))

length_rows : (n i m : ℕ) → i ≤ n → n ≤ 32 → length (rows n i m) ≤ 103 * i
unfolding rows
length_rows n zero m h k = omega arith
length_rows n (suc i) m h k =
    rw length-append (omega (arith, length_rows n i (m / 4) (omega arith) k, length_row n (suc i) (m % 4) (line_of m) h k))

length_last : (l : Line) (q : ℕ) → l.root < 2 ^ 64 → l.left < 2 ^ 64 → q < 2 ^ 64 → length (last_line l q) ≤ 90
unfolding last_line
length_last l q h k r =
    simp length-append (omega (arith, length_count l.root h, length_term 120 l.root h, length_term 43 l.left k, length_term 61 q r))

-- ---- the place

-- a number of 64 bits has 32 pairs at most
pub pairs_few : (q : ℕ) → q < 2 ^ 64 → pairs_of q ≤ 32
pairs_few q h = room_le q (pairs_of q) 32 (pairs_is q).least h

-- a place tells how many pairs are to come
place_less : (a b : ℕ) → 4 ^ a / 4 ≡ 4 ^ b / 4 → a ≤ b
place_less a b e = room_le (4 ^ b / 4) a b (le_of_eq e) (omega (arith, one-le-pow b 4 (omega arith)))

place_one : (a b : ℕ) → 4 ^ a / 4 ≡ 4 ^ b / 4 → a ≡ b
place_one a b e = le_antisymm (place_less a b e) (place_less b a (sym e))

-- the line that stands at a place, moved to the right, is that of the bits brought down
moved_is : (q p : ℕ) (l m : Line) → 0 < p → l ≡ standing q p → m ≡ moved_right p l → m ≡ line_of (q / p)
moved_is q p l m h e a =
    let x : l.left / p ≡ (line_of (q / p)).left =
    ap (λ (k : Line). k.left / p) e ∙ mul-add-div_right {m = p} h (line_of (q / p)).left (q % p)
    ∙ ap ((line_of (q / p)).left +◌) (div-eq_of_lt (mod-lt q h)) ∙ add-zero (line_of (q / p)).left in
    let y : l.root / p ≡ (line_of (q / p)).root = ap (λ (k : Line). k.root / p) e ∙ mul-div_cancel (line_of (q / p)).root h in
    a ∙ (λ i. line (x i) (y i))

-- ---- the rows so far

-- i of n rows are on the page o, which was p behind the first line
pub record SoFar (q n i place : ℕ) (l : Line) (p o : Page) : Type 0 where
  pub k : ℕ
  pub few : n ≤ 32
  pub space : HasRoom 3386 p
  pub count : i + k ≡ n
  pub place_is : place ≡ 4 ^ k / 4
  pub stands : Stands q place l
  pub put : o ≡ put_on (rows n i (q / 4 ^ k)) p

pub so_far_first : (q n place : ℕ) (p : Page) → q < 2 ^ 64 → n ≡ pairs_of q → place ≡ 4 ^ pairs_of q / 4 → HasRoom 3386 p
    → SoFar q n 0 place (line q 0) p p
unfolding rows
so_far_first q n place p h e w r =
    record {
      k = n;
      few = omega (arith, pairs_few q h, e);
      space = r;
      count = omega arith;
      place_is = w ∙ ap (λ (k : ℕ). 4 ^ k / 4) (sym e);
      stands = stands_first q q place (le_refl q) h w;
      put = sym (put_none p);
    }

module _ {q n i place : ℕ} {l : Line} {p o : Page} (f : SoFar q n i place l p o) where
  long : length (rows n i (q / 4 ^ f.k)) ≤ 103 * i
  long = length_rows n i (q / 4 ^ f.k) (omega (arith, f.count)) f.few

  -- a row is to come
  to_come : 0 < place → (j : ℕ) × (f.k ≡ suc j) × (place ≡ 4 ^ j)
  to_come h = go f.k f.place_is
    where
      go : (k : ℕ) → place ≡ 4 ^ k / 4 → (j : ℕ) × (k ≡ suc j) × (place ≡ 4 ^ j)
      go zero e = absurd (omega (arith, e))
      go (suc j) e = (j, refl, e ∙ next_place j)

  -- as long as rows are to come there is a place, and then none
  pub has_place : i < n → 0 < place
  has_place h = go f.k f.place_is f.count
    where
      go : (k : ℕ) → place ≡ 4 ^ k / 4 → i + k ≡ n → 0 < place
      go zero e c = absurd (omega (arith, c, h))
      go (suc j) e c = omega (arith, e, next_place j, one-le-pow j 4 (omega arith))

  pub no_place : n ≤ i → place ≤ 0
  no_place h = go f.k f.place_is f.count
    where
      go : (k : ℕ) → place ≡ 4 ^ k / 4 → i + k ≡ n → place ≤ 0
      go zero e c = omega (arith, e)
      go (suc j) e c = absurd (omega (arith, c, h))

  pub one_more : 0 < place → i + 1 ≤ n
  one_more h = omega (arith, (to_come h).1, f.count)

  pub row_room : 0 < place → HasRoom 103 o
  row_room h = omega (arith, one_more h, left _ _ _ f.put, long, f.space, f.few)

  pub last_room : HasRoom 90 o
  last_room = omega (arith, left _ _ _ f.put, long, f.space, f.few, f.count)

  -- the next row is written
  pub so_far_next : (h : 0 < place) (y m : Line) (u : Page) → y ≡ step_at place l → m ≡ moved_right place y
      → u ≡ put_on (row n (i + 1) (q / place % 4) m) o → SoFar q n (i + 1) (place / 4) y p u
  unfolding rows
  so_far_next h y m u e a w =
      record {
        k = j;
        few = f.few;
        space = f.space;
        count = omega (arith, t.1, f.count);
        place_is = ap (◌/ 4) t.2;
        stands = subst (Stands q (place / 4)) (sym e) x;
        put = after _ _ _ f.put _ _ w ∙ ap (λ (t : List ℕ). put_on t p) (sym text);
      }
    where
      t : (j : ℕ) × (f.k ≡ suc j) × (place ≡ 4 ^ j)
      t = to_come h

      j : ℕ
      j = t.0

      x : Stands q (place / 4) (step_at place l)
      x = stands_next q place l h f.stands

      same : x.k ≡ j
      same = place_one x.k j (sym x.at ∙ ap (◌/ 4) t.2)

      stood : y ≡ standing q place
      stood = e ∙ x.stands ∙ ap (λ (k : ℕ). standing q (4 ^ k)) same ∙ ap (standing q) (sym t.2)

      quarter : q / 4 ^ j / 4 ≡ q / 4 ^ f.k
      quarter = div-div-eq-div-mul q (4 ^ j) 4 ∙ ap (q /◌) (sym (pow-suc 4 j) ∙ ap (4 ^◌) (sym t.1))

      brought : row n (suc i) (q / 4 ^ j % 4) (line_of (q / 4 ^ j)) ≡ row n (i + 1) (q / place % 4) m
      brought =
          ap (λ (p : ℕ). row n (suc i) (q / p % 4) (line_of (q / p))) (sym t.2)
          ∙ ap (row n (suc i) (q / place % 4)) (sym (moved_is q place y m h stood a))
          ∙ ap (λ (k : ℕ). row n k (q / place % 4) m) (sym (add-one i))

      text : rows n (i + 1) (q / 4 ^ j) ≡ rows n i (q / 4 ^ f.k) ++ row n (i + 1) (q / place % 4) m
      text = ap (λ (k : ℕ). rows n k (q / 4 ^ j)) (add-one i) ∙ ap₂ (λ (y z : List ℕ). y ++ z) (ap (rows n i) quarter) brought

  -- no row is to come
  pub so_far_last : place ≤ 0 → n ≡ pairs_of q → (l ≡ line_of q) × (o ≡ put_on (rows (pairs_of q) (pairs_of q) q) p)
  so_far_last h e = (
    stands_last q place l h f.stands,
    f.put ∙ ap (λ (y : List ℕ). put_on y p) (go f.k f.place_is f.count),
  )
    where
      go : (k : ℕ) → place ≡ 4 ^ k / 4 → i + k ≡ n → rows n i (q / 4 ^ k) ≡ rows (pairs_of q) (pairs_of q) q
      go zero w c =
          let d : i ≡ pairs_of q = omega (arith, c, e) in
          ap (rows n i) (div-one q) ∙ ap₂ (λ (a b : ℕ). rows a b q) e d
      go (suc k) w c = absurd (omega (arith, w, next_place k, one-le-pow k 4 (omega arith), h))

-- ---- the whole sheet

-- behind the first line there is room for all that follows
pub first_room : (n q : ℕ) (p o : Page) → n ≤ 32 → HasRoom 4096 p → o ≡ put_on (first_line n q) p → HasRoom 3386 o
first_room n q p o h r w = omega (arith, left _ _ _ w, length_first n q, h, r)

-- it ends within the bytes that are lent
at_most_square : (r : ℕ) → r ≤ r * r
at_most_square zero = omega arith
at_most_square (suc r) = le_trans (le_of_eq (sym (mul-one (suc r)))) (mul-le-mul_left (suc r) (omega arith))

length_sheet : (q : ℕ) → q < 2 ^ 64 → length (sheet_of q) ≤ 4096
unfolding sheet_of root_of
length_sheet q h =
    let n = pairs_few q h in
    let w = left_is q in
    let a = at_most_square (line_of q).root in
    rw (length-append, length-append)
    (omega (arith, n, length_first (pairs_of q) q, length_rows (pairs_of q) (pairs_of q) q (le_refl (pairs_of q)) n, length_last (line_of q) q (omega (arith, w, a, h)) (omega (arith, w, h)) h))

pub sheet_within : (q r : ℕ) (s o : List ℕ) → q < 2 ^ 64 → 4096 ≤ length o → (r, o) ≡ written 0 (sheet_of q) s → r ≤ length o
unfolding written
sheet_within q r s o h l w = omega (arith, ap (λ (x : ℕ × List ℕ). x.0) w, length_sheet q h, l)
