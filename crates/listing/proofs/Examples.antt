-- The lines that are written out on paper, computed. Assumes nothing.
-- The numbers are ASCII: 32 is a space, 48 to 57 are the digits, 10 is the line feed.
use Rattle.std.specs.Prelude.{Some, None}
use mathlib.Core.Path.{◌≡◌, refl}
use mathlib.Core.List.{[], ◌∷◌}
use Rattle.answer.specs.declared.Refusal.TheVariants.{Vacant}
use Rattle.text.specs.Text.{digits_in, decimal}
use Rattle.listing.specs.Listing.{ask_line, refusal_line, end_line}

-- 3 R05 61.6 50.3
pub an_ask : ask_line 3 5 (Some 616) (Some 503) ≡ 51 ∷ 32 ∷ 82 ∷ 48 ∷ 53 ∷ 32 ∷ 54 ∷ 49 ∷ 46 ∷ 54 ∷ 32 ∷ 53 ∷ 48 ∷ 46 ∷ 51 ∷ 10 ∷ []
unfolding ask_line decimal digits_in
an_ask = refl

-- 4 E09
pub a_refusal : refusal_line 4 Vacant ≡ 52 ∷ 32 ∷ 69 ∷ 48 ∷ 57 ∷ 10 ∷ []
unfolding refusal_line decimal digits_in
a_refusal = refl

-- END 4
pub an_end : end_line 4 ≡ 69 ∷ 78 ∷ 68 ∷ 32 ∷ 52 ∷ 10 ∷ []
unfolding end_line decimal digits_in
an_end = refl

-- 200000 R63 --.- 0.7
pub a_quiet_day : ask_line 200000 63 None (Some 7) ≡ 50 ∷ 48 ∷ 48 ∷ 48 ∷ 48 ∷ 48 ∷ 32 ∷ 82 ∷ 54 ∷ 51 ∷ 32 ∷ 45 ∷ 45 ∷ 46 ∷ 45 ∷ 32 ∷ 48 ∷ 46 ∷ 55 ∷ 10 ∷ []
unfolding ask_line decimal digits_in
a_quiet_day = refl

-- END 18446744073709551615, the largest count
pub the_largest : end_line 18446744073709551615 ≡ 69 ∷ 78 ∷ 68 ∷ 32 ∷ 49 ∷ 56 ∷ 52 ∷ 52 ∷ 54 ∷ 55 ∷ 52 ∷ 52 ∷ 48 ∷ 55 ∷ 51 ∷ 55 ∷ 48 ∷ 57 ∷ 53 ∷ 53 ∷ 49 ∷ 54 ∷ 49 ∷ 53 ∷ 10 ∷ []
unfolding end_line decimal digits_in
the_largest = refl
