-- A layout is a list of widths in bits. A record is the number that its bytes make, and its fields are that number taken apart from the top.
use Rattle.std.specs.Prelude.{ℕ, ◌+◌, ◌-◌, ◌*◌, ◌/◌, ◌%◌, ◌^◌, ◌<◌, List, [], ◌∷◌, Bool, true, ◌&&◌, leb, eqb, length, get_or, take, replicate}

-- the bits of a layout
abbrev pub sum : List ℕ → ℕ
sum [] = 0
sum (w ∷ ws) = w + sum ws

-- the number that fields make, the first of them highest
abbrev pub pack : List ℕ → List ℕ → ℕ
pack [] vs = 0
pack (w ∷ ws) [] = 0
pack (w ∷ ws) (v ∷ vs) = v * 2 ^ sum ws + pack ws vs

-- the fields that a number is taken apart into
abbrev pub unpack : List ℕ → ℕ → List ℕ
unpack [] n = []
unpack (w ∷ ws) n = (n / 2 ^ sum ws % 2 ^ w) ∷ unpack ws n

-- one field for each width, and below 2 ^ that width
abbrev pub Within : List ℕ → List ℕ → Type 0
Within [] [] = Unit
Within [] (v ∷ vs) = ⊥
Within (w ∷ ws) [] = ⊥
Within (w ∷ ws) (v ∷ vs) = (v < 2 ^ w) × Within ws vs

-- a list of bytes
abbrev pub Bytes : List ℕ → Type 0
Bytes s = (i : ℕ) → get_or s i 0 < 256

-- the number of a list of bytes: bytes are a layout of eights
unfoldable pub num : List ℕ → ℕ
num s = pack (replicate (length s) 8) s

-- the k bytes of a number
unfoldable pub bytes_of : ℕ → ℕ → List ℕ
bytes_of k n = unpack (replicate k 8) n

-- the bytes that a layout fills
abbrev pub size : List ℕ → ℕ
size ws = sum ws / 8

-- the fields of the record that stands at the front of the bytes s
unfoldable pub fields : List ℕ → List ℕ → List ℕ
fields ws s = unpack ws (num (take (size ws) s))

-- the bytes of a record
unfoldable pub packed : List ℕ → List ℕ → List ℕ
packed ws vs = bytes_of (size ws) (pack ws vs)

-- the n bits of the bytes s from bit at on
unfoldable pub bits : ℕ → ℕ → List ℕ → ℕ
bits at n s = num s / 2 ^ (8 * length s - (at + n)) % 2 ^ n

-- each field has a bit or more, and with the r bits before it in its first byte at most 64
abbrev pub narrow : ℕ → List ℕ → Bool
narrow r [] = true
narrow r (w ∷ ws) = leb 1 w && (leb (r + w) 64 && narrow ((r + w) % 8) ws)

-- a layout that the code can handle: narrow fields that fill whole bytes, a thousand at most
abbrev pub sized : List ℕ → Bool
sized ws = narrow 0 ws && (eqb (sum ws % 8) 0 && leb (sum ws) 8000)
