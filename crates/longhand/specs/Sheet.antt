-- The sheet of a number: how its root is worked by hand in binary, as a list of byte values, and the sum that proves it in decimal.
-- A byte is ASCII: 10 is the line feed, 32 a blank, 43 is +, 61 is =, 120 is x, and the digits are 48 to 57.
use Rattle.std.specs.Prelude.{ℕ, zero, suc, ◌+◌, ◌-◌, ◌*◌, ◌/◌, ◌%◌, ◌^◌, ◌≤◌, ◌<◌, ◌≡◌, cond, List, [], ◌∷◌, ◌++◌, eqb}
use Rattle.root.specs.declared.Line.{Line}
use Rattle.root.specs.Root.{line_of, pairs_of}
use Rattle.text.specs.Text.{decimal, value_after}

-- ---- numbers

-- the last binary digit of v; where nothing is left of v, what stands for a leading zero
abbrev pub mark : ℕ → ℕ → ℕ
mark lead v = cond (eqb v 0) lead (48 + v % 2)

-- v in w columns, of which each has a binary digit
unfoldable pub columns : ℕ → ℕ → ℕ → List ℕ
columns lead zero v = []
columns lead (suc w) v = columns lead w (v / 2) ++ (mark lead v ∷ [])

-- v in w binary digits, and w blanks
abbrev pub bits : ℕ → ℕ → List ℕ
bits w v = columns 48 w v

abbrev pub blanks : ℕ → List ℕ
blanks w = columns 32 w 0

-- v at the right of w columns: leading zeros are blanks, but for the last digit
unfoldable pub short : ℕ → ℕ → List ℕ
short w v = columns 32 (w - 1) (v / 2) ++ bits 1 v

-- ---- lines

-- the number, in n pairs of bits
unfoldable pub first_line : ℕ → ℕ → List ℕ
first_line n q = blanks 4 ++ bits (2 * n) q ++ (10 ∷ [])

-- row i of n: the two bits brought down, what is left at the right of 2 + 2i columns, and the root so far in i digits
unfoldable pub row : ℕ → ℕ → ℕ → Line → List ℕ
row n i two l = bits 2 two ++ short (2 * i + 2) l.left ++ blanks (2 * (n - i) + 2) ++ bits i l.root ++ (10 ∷ [])

-- the first i rows of n, where m is what was brought down for them: those of m / 4, then that of m
unfoldable pub rows : ℕ → ℕ → ℕ → List ℕ
rows n zero m = []
rows n (suc i) m = rows n i (m / 4) ++ row n (suc i) (m % 4) (line_of m)

-- the sum: ROOT x ROOT + LEFT = Q
unfoldable pub term : ℕ → ℕ → List ℕ
term sign x = 32 ∷ sign ∷ 32 ∷ decimal x

unfoldable pub last_line : Line → ℕ → List ℕ
last_line l q = decimal l.root ++ term 120 l.root ++ term 43 l.left ++ term 61 q ++ (10 ∷ [])

-- ---- the sheet

-- the first line, a row for each pair of bits from the highest that is not zero, and the sum
unfoldable pub sheet_of : ℕ → List ℕ
sheet_of q = first_line (pairs_of q) q ++ rows (pairs_of q) (pairs_of q) q ++ last_line (line_of q) q

-- ---- what is promised

-- of every number: what is written of it in binary has its value (a blank counts as 0), and at every row what is left and the root so far have room in their columns.
-- `of_sheets` in proofs/Values.antt is the proof
pub record Promises : Type 0 where
  pub bits_are : (w v : ℕ) → v < 2 ^ w → value_after 2 0 (bits w v) ≡ v
  pub short_is : (w v : ℕ) → 1 ≤ w → v < 2 ^ w → value_after 2 0 (short w v) ≡ v
  pub root_fits : (i m : ℕ) → m < 4 ^ i → (line_of m).root < 2 ^ i
  pub left_fits : (i m : ℕ) → m < 4 ^ i → (line_of m).left < 2 ^ (2 * i)
