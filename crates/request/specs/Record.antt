-- What reading and writing a record give, for every input (METHOD 3 and 9); the kinds are those of `Kinds`.
-- The refusals stand in the order of their numbers: the lowest that applies is given.
use Rattle.std.specs.Prelude.{ℕ, Bool, cond, ◌||◌, List, [], ◌++◌, length, take, drop, leb, ltb, eqb, Ok, Err, Result, ⊤}
use Rattle.std.proofs.Math.Option.{Option, none, some}
use Rattle.layout.specs.Layout.{size, bits, fields, packed}
use Rattle.answer.specs.declared.Refusal.{Refusal}
use Rattle.answer.specs.declared.Refusal.TheVariants.{CutShort, UnknownKind, Leftover}
use Rattle.answer.specs.Table.{number_by, place_by}
use Rattle.road.specs.declared.Source.{Source}
use Rattle.road.specs.Results.{Verdict}
use Rattle.request.specs.declared.Request.{Request}
use Rattle.request.specs.declared.Reading.{Reading}
use Rattle.request.specs.Kinds.{kind_bits, blank, layout_of, call_in, source_in, leftover_of, verdict_of, kind_number, fields_of}

-- what a reading tells: a call, or why there is none
abbrev pub Told : Type 0
Told = Result Request Refusal

-- what comes of writing
abbrev pub Written : Type 0
Written = Result ⊤ Refusal

-- ---- the record at the front of the bytes s

-- its kind is its first bits
abbrev pub kind_of : List ℕ → ℕ
kind_of s = bits 0 kind_bits s

-- how many bytes it takes by its kind: none where the kind is not listed
abbrev pub length_of : List ℕ → ℕ
length_of s = size (layout_of (kind_of s))

-- its kind, its fields and its leftover bits
abbrev pub values_of : List ℕ → List ℕ
values_of s = fields (layout_of (kind_of s)) s

-- refusal 2: the bytes end inside the record, or there are none
abbrev pub cut_short : List ℕ → Bool
cut_short s = eqb (length s) 0 || ltb (length s) (length_of s)

-- refusal 3: its kind is not listed
abbrev pub unknown_kind : List ℕ → Bool
unknown_kind s = eqb (length_of s) 0

-- refusal 4: a leftover bit is set
abbrev pub leftover_set : List ℕ → Bool
leftover_set s = ltb 0 (leftover_of (kind_of s) (values_of s))

-- ---- reading

-- what is told, and the source beside it
abbrev pub reading : Told → Source → Reading
reading t s = record { told = t; source = s }

-- a refusal tells nothing else
abbrev pub refused : Refusal → Reading
refused why = reading (Err why) blank

-- refusals 5, 6 and 7: fields that are not allowed
abbrev pub judged : Verdict → Request → Source → Reading
judged (Ok tt) call source = reading (Ok call) source
judged (Err why) call source = refused why

-- a call, if it is allowed
abbrev pub heard_by : Request → Source → Reading
heard_by call source = judged (verdict_of call source) call source

-- what the fields of kind k ask for, if it is allowed
abbrev pub heard : ℕ → List ℕ → Reading
heard k v = heard_by (call_in k v) (source_in k v)

-- the record at the front, or the lowest refusal that applies
unfoldable pub read_of : List ℕ → Reading
read_of s =
    cond (cut_short s) (refused CutShort)
    (cond (unknown_kind s) (refused UnknownKind)
    (cond (leftover_set s) (refused Leftover)
    (heard (kind_of s) (values_of s))))

-- the bytes of the record where they are all there, whether or not it is refused 4 to 7; none where it is refused 2 or 3
unfoldable pub extent_of : List ℕ → ℕ
extent_of s = cond (leb (length_of s) (length s)) (length_of s) 0

-- a refusal's part is empty
abbrev pub part_by : Told → List ℕ → List ℕ
part_by (Ok call) s = take (extent_of s) s
part_by (Err why) s = []

-- the record as a part of the caller's own bytes
unfoldable pub part_of : List ℕ → List ℕ
part_of s = part_by (read_of s).told s

-- ---- writing

-- the bytes of a call
unfoldable pub record_of : Request → Source → List ℕ
record_of call source = packed (layout_of (kind_number call source)) (fields_of call source)

-- refusals 5, 6 and 7; then 2, if the output is shorter than the record. The bytes past the record stay.
abbrev pub written_by : Verdict → List ℕ → List ℕ → Written × List ℕ
written_by (Err why) bytes out = (Err why, out)
written_by (Ok tt) bytes out =
    cond (ltb (length out) (length bytes)) (Err CutShort, out) (Ok tt, bytes ++ drop (length bytes) out)

-- the answer, and the output as it then is
unfoldable pub write_of : Request → Source → List ℕ → Written × List ℕ
write_of call source out = written_by (verdict_of call source) (record_of call source) out

-- ---- number and place of what a reading tells, and of what comes of writing

abbrev pub refusal_told : Told → Option Refusal
refusal_told (Ok call) = none
refusal_told (Err why) = some why

abbrev pub number_told : Told → ℕ
number_told t = number_by (refusal_told t)

abbrev pub place_told : Told → ℕ
place_told t = place_by (refusal_told t)

abbrev pub refusal_written : Written → Option Refusal
refusal_written (Ok tt) = none
refusal_written (Err why) = some why

abbrev pub number_written : Written → ℕ
number_written w = number_by (refusal_written w)

abbrev pub place_written : Written → ℕ
place_written w = place_by (refusal_written w)
