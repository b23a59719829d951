-- The lines of the listing (METHOD 10), as lists of byte values; a comment has the text that they are in ASCII.
-- A record that is placed or withdrawn has no line.
use Rattle.std.specs.Prelude.{ℕ, ◌/◌, cond, List, [], ◌∷◌, ◌++◌, ltb, length, drop, Ok, Err, Some, None}
use Rattle.answer.specs.declared.Refusal.{Refusal}
use Rattle.answer.specs.Table.{number_of}
use Rattle.index.specs.Index.{Index}
use Rattle.service.specs.Service.{Outcome}
use Rattle.service.specs.declared.Report.TheVariants.{Done, Levels}
use Rattle.text.specs.Text.{digit, decimal}

-- 'The listing': a slot or the number of a refusal, each below 100, in two digits
abbrev pub two_digits : ℕ → List ℕ
two_digits n = digit (n / 10) ∷ digit n ∷ []

-- 'The listing': a level has its whole part, a point and one digit; quiet is --.-
abbrev pub level_text : Index → List ℕ
level_text None = 45 ∷ 45 ∷ 46 ∷ 45 ∷ []  -- --.-
level_text (Some t) = decimal (t / 10) ++ (46 ∷ digit t ∷ [])  -- . and the tenth

-- 'The listing': an ask prints n, R and two-digit slot, L_DEN, L_Night
unfoldable pub ask_line : ℕ → ℕ → Index → Index → List ℕ
ask_line n slot den night =
    decimal n
    ++ (32 ∷ 82 ∷ two_digits slot)  -- a space, R
    ++ (32 ∷ level_text den)  -- a space
    ++ (32 ∷ level_text night)  -- a space
    ++ (10 ∷ [])  -- a line feed

-- 'The listing': a refusal prints n, E and two-digit number
unfoldable pub refusal_line : ℕ → Refusal → List ℕ
refusal_line n why =
    decimal n
    ++ (32 ∷ 69 ∷ two_digits (number_of why))  -- a space, E
    ++ (10 ∷ [])  -- a line feed

-- 'The listing': what a record prints, by its outcome
abbrev pub line_of : ℕ → Outcome → List ℕ
line_of n (Ok Done) = []
line_of n (Ok (Levels slot den night)) = ask_line n slot den night
line_of n (Err why) = refusal_line n why

-- 'The listing': the last line is END and the number of records tried
unfoldable pub end_line : ℕ → List ℕ
end_line n =
    (69 ∷ 78 ∷ 68 ∷ 32 ∷ [])  -- END, a space
    ++ decimal n
    ++ (10 ∷ [])  -- a line feed

-- the room that every line has
abbrev pub line_room : ℕ
line_room = 64

-- a line at the front of the bytes that are lent, and its length; in less room nothing is written
unfoldable pub put : List ℕ → List ℕ → ℕ × List ℕ
put line out = cond (ltb (length out) line_room) (0, out) (length line, line ++ drop (length line) out)
