-- The definitions at small numbers, by computing. Assumes nothing.
use mathlib.Core.Path.{◌≡◌, refl}
use mathlib.Core.Bool.{true, false}
use mathlib.Core.List.{[], ◌∷◌}
use Rattle.layout.specs.Layout.{num, bytes_of, fields, packed, bits, sized}
use Rattle.layout.specs.Bounds.{first_outside, under}
use Rattle.layout.specs.Over.{over}

-- 0x12 0x34 in 4, 9 and 3 bits: 0001 001000110 100; a byte that follows is not read
twelve : fields (4 ∷ 9 ∷ 3 ∷ []) (18 ∷ 52 ∷ 255 ∷ []) ≡ 1 ∷ 70 ∷ 4 ∷ []
unfolding fields num
twelve = refl

back : packed (4 ∷ 9 ∷ 3 ∷ []) (1 ∷ 70 ∷ 4 ∷ []) ≡ 18 ∷ 52 ∷ []
unfolding packed bytes_of
back = refl

nine : bits 4 9 (18 ∷ 52 ∷ 255 ∷ []) ≡ 70
unfolding bits num
nine = refl

-- 60 bits fit from bit 4 on, and not from bit 5 on; 64 fit from bit 0 on; a record ends with a byte
fits : sized (4 ∷ 60 ∷ 64 ∷ []) ≡ true
fits = refl

too_wide : sized (5 ∷ 60 ∷ 7 ∷ []) ≡ false
too_wide = refl

part_of_byte : sized (4 ∷ 5 ∷ []) ≡ false
part_of_byte = refl

-- 0 to 9, 5 to 6: the greatest value is inside, one more is outside
inside : first_outside (0 ∷ 5 ∷ []) (9 ∷ 6 ∷ []) (9 ∷ 6 ∷ []) ≡ 2
inside = refl

outside : first_outside (0 ∷ 5 ∷ []) (9 ∷ 6 ∷ []) (9 ∷ 7 ∷ []) ≡ 1
outside = refl

greatest_fits : under (4 ∷ 3 ∷ []) (15 ∷ 7 ∷ []) ≡ true
greatest_fits = refl

written : over 1 (8 ∷ 9 ∷ []) (0 ∷ 1 ∷ 2 ∷ 3 ∷ []) ≡ 0 ∷ 8 ∷ 9 ∷ 3 ∷ []
unfolding over
written = refl
