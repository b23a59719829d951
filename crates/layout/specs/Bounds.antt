-- The least and the greatest value of each field.
use Rattle.std.specs.Prelude.{ℕ, suc, ◌^◌, ◌≡◌, List, [], ◌∷◌, Bool, true, false, ◌&&◌, leb, ltb, length}

-- v is from lo to hi
abbrev pub allowed : ℕ → ℕ → ℕ → Bool
allowed lo hi v = leb lo v && leb v hi

-- one past n where the test holds, or 0
abbrev pub onwards : Bool → ℕ → ℕ
onwards true n = suc n
onwards false n = 0

-- the index of the first field that is below its least or above its greatest value, or the length where none is
abbrev pub first_outside : List ℕ → List ℕ → List ℕ → ℕ
first_outside los his [] = 0
first_outside [] his (v ∷ vs) = 0
first_outside (lo ∷ los) [] (v ∷ vs) = 0
first_outside (lo ∷ los) (hi ∷ his) (v ∷ vs) = onwards (allowed lo hi v) (first_outside los his vs)

-- no field is outside
abbrev pub Inside : List ℕ → List ℕ → List ℕ → Type 0
Inside los his vs = first_outside los his vs ≡ length vs

-- the greatest value of each field is below 2 ^ its width
abbrev pub under : List ℕ → List ℕ → Bool
under [] [] = true
under [] (hi ∷ his) = false
under (w ∷ ws) [] = false
under (w ∷ ws) (hi ∷ his) = ltb hi (2 ^ w) && under ws his
