-- What a byte does to what is read of a line so far: a digit goes behind the number, if it still is below 2^64.
-- Any other byte, and a number that is too large, is wrong; and what is wrong stays wrong.
use Rattle.std.specs.Prelude.{ℕ, ◌+◌, ◌-◌, ◌*◌, ◌^◌, ◌≡◌, cond, List, [], ◌∷◌, ltb}
use Rattle.longhand.specs.declared.reading.Reading.{Reading}
use Rattle.longhand.specs.declared.reading.Reading.TheVariants.{Nothing, Number, Wrong}
use Rattle.text.specs.Text.{decimal}

-- a number, if it is below 2^64
abbrev pub below : ℕ → Reading
below v = cond (ltb v (2 ^ 64)) (Number v) Wrong

-- q with a digit behind it; the digits are 48 to 57
unfoldable pub with_digit : ℕ → ℕ → Reading
with_digit q byte = cond (ltb byte 48) Wrong (cond (ltb 57 byte) Wrong (below (q * 10 + (byte - 48))))

-- the first digit has nothing before it
unfoldable pub fed_by : Reading → ℕ → Reading
fed_by Nothing byte = with_digit 0 byte
fed_by (Number q) byte = with_digit q byte
fed_by Wrong byte = Wrong

-- ---- what is promised

-- what is read once all bytes of a list came
abbrev pub read_of : Reading → List ℕ → Reading
read_of r [] = r
read_of r (b ∷ l) = read_of (fed_by r b) l

-- of every number: its decimal digits are read as the number, if it is below 2^64. `of_reading` in proofs/Values.antt is the proof
pub record Promises : Type 0 where
  pub read_back : (x : ℕ) → read_of Nothing (decimal x) ≡ below x
