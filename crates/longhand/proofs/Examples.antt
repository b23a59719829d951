-- Sheets that are written out on paper, computed. Assumes nothing.
-- The numbers are ASCII: 10 is the line feed, 32 a blank, 43 is +, 61 is =, 120 is x, and the digits are 48 to 57.
use mathlib.Core.Path.{◌≡◌, refl}
use mathlib.Core.List.{[], ◌∷◌}
use Rattle.root.specs.Root.{rooted, pairs_in}
use Rattle.text.specs.Text.{digits_in, decimal}
use Rattle.longhand.specs.Sheet.{columns, short, first_line, row, rows, term, last_line, sheet_of}

-- 0 has no pairs
--
-- 0 x 0 + 0 = 0
pub the_sheet_of_none : sheet_of 0 ≡
    32 ∷ 32 ∷ 32 ∷ 32 ∷ 10 ∷
    48 ∷ 32 ∷ 120 ∷ 32 ∷ 48 ∷ 32 ∷ 43 ∷ 32 ∷ 48 ∷ 32 ∷ 61 ∷ 32 ∷ 48 ∷ 10 ∷ []
unfolding sheet_of first_line rows row short columns last_line term decimal digits_in rooted pairs_in
the_sheet_of_none = refl

--     0110
-- 01   0    1
-- 10    10  10
-- 2 x 2 + 2 = 6
pub a_sheet : sheet_of 6 ≡
    32 ∷ 32 ∷ 32 ∷ 32 ∷ 48 ∷ 49 ∷ 49 ∷ 48 ∷ 10 ∷
    48 ∷ 49 ∷ 32 ∷ 32 ∷ 32 ∷ 48 ∷ 32 ∷ 32 ∷ 32 ∷ 32 ∷ 49 ∷ 10 ∷
    49 ∷ 48 ∷ 32 ∷ 32 ∷ 32 ∷ 32 ∷ 49 ∷ 48 ∷ 32 ∷ 32 ∷ 49 ∷ 48 ∷ 10 ∷
    50 ∷ 32 ∷ 120 ∷ 32 ∷ 50 ∷ 32 ∷ 43 ∷ 32 ∷ 50 ∷ 32 ∷ 61 ∷ 32 ∷ 54 ∷ 10 ∷ []
unfolding sheet_of first_line rows row short columns last_line term decimal digits_in rooted pairs_in
a_sheet = refl

--     1111101000
-- 11  10          1
-- 11   110        11
-- 10    1101      111
-- 10     11001    1111
-- 00      100111  11111
-- 31 x 31 + 39 = 1000
pub a_larger_sheet : sheet_of 1000 ≡
    32 ∷ 32 ∷ 32 ∷ 32 ∷ 49 ∷ 49 ∷ 49 ∷ 49 ∷ 49 ∷ 48 ∷ 49 ∷ 48 ∷ 48 ∷ 48 ∷ 10 ∷
    49 ∷ 49 ∷ 32 ∷ 32 ∷ 49 ∷ 48 ∷ 32 ∷ 32 ∷ 32 ∷ 32 ∷ 32 ∷ 32 ∷ 32 ∷ 32 ∷ 32 ∷ 32 ∷ 49 ∷ 10 ∷
    49 ∷ 49 ∷ 32 ∷ 32 ∷ 32 ∷ 49 ∷ 49 ∷ 48 ∷ 32 ∷ 32 ∷ 32 ∷ 32 ∷ 32 ∷ 32 ∷ 32 ∷ 32 ∷ 49 ∷ 49 ∷ 10 ∷
    49 ∷ 48 ∷ 32 ∷ 32 ∷ 32 ∷ 32 ∷ 49 ∷ 49 ∷ 48 ∷ 49 ∷ 32 ∷ 32 ∷ 32 ∷ 32 ∷ 32 ∷ 32 ∷ 49 ∷ 49 ∷ 49 ∷ 10 ∷
    49 ∷ 48 ∷ 32 ∷ 32 ∷ 32 ∷ 32 ∷ 32 ∷ 49 ∷ 49 ∷ 48 ∷ 48 ∷ 49 ∷ 32 ∷ 32 ∷ 32 ∷ 32 ∷ 49 ∷ 49 ∷ 49 ∷ 49 ∷ 10 ∷
    48 ∷ 48 ∷ 32 ∷ 32 ∷ 32 ∷ 32 ∷ 32 ∷ 32 ∷ 49 ∷ 48 ∷ 48 ∷ 49 ∷ 49 ∷ 49 ∷ 32 ∷ 32 ∷ 49 ∷ 49 ∷ 49 ∷ 49 ∷ 49 ∷ 10 ∷
    51 ∷ 49 ∷ 32 ∷ 120 ∷ 32 ∷ 51 ∷ 49 ∷ 32 ∷ 43 ∷ 32 ∷ 51 ∷ 57 ∷ 32 ∷ 61 ∷ 32 ∷ 49 ∷ 48 ∷ 48 ∷ 48 ∷ 10 ∷ []
unfolding sheet_of first_line rows row short columns last_line term decimal digits_in rooted pairs_in
a_larger_sheet = refl
