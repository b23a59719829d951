-- Numbers in decimal, as lists of byte values in ASCII, and a text that is written at a place.
-- A sheet and a listing are made of these.
use Rattle.std.specs.Prelude.{ℕ, zero, suc, ◌+◌, ◌-◌, ◌*◌, ◌/◌, ◌%◌, List, [], ◌∷◌, ◌++◌, length}
use Rattle.layout.specs.Over.{over}

-- the last digit of n, from 0 (48) to 9 (57)
abbrev pub digit : ℕ → ℕ
digit n = 48 + n % 10

-- the digits of n in so many turns at most, none of them for 0: those of n / 10, then its last
unfoldable pub digits_in : ℕ → ℕ → List ℕ
digits_in zero n = []
digits_in (suc turns) zero = []
digits_in (suc turns) (suc m) = digits_in turns (suc m / 10) ++ (digit (suc m) ∷ [])

-- a number without leading zeros, 0 for none
unfoldable pub decimal : ℕ → List ℕ
decimal zero = 48 ∷ []  -- 0
decimal (suc m) = digits_in (suc m) (suc m)

-- the last k digits of n
unfoldable pub last_digits : ℕ → ℕ → List ℕ
last_digits zero n = []
last_digits (suc k) n = last_digits k (n / 10) ++ (digit n ∷ [])

-- the value of digits to a base, behind others of the value v
abbrev pub value_after : ℕ → ℕ → List ℕ → ℕ
value_after base v [] = v
value_after base v (b ∷ l) = value_after base (v * base + (b - 48)) l

-- the place after the text t that is written into s at the place at, and s with it
unfoldable pub written : ℕ → List ℕ → List ℕ → ℕ × List ℕ
written at t s = (at + length t, over at t s)
