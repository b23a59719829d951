-- A kind of record and the number that its records begin with, which is its row in the table (request/specs/Kinds.antt).
-- Not every number is one: a record's first bits may be those of no kind.
use Rattle.std.specs.Prelude.{ℕ, cond, eqb, List, [], ◌∷◌, length, Some, None, Option, Ok, Err, Result, ok_or}
use Rattle.answer.specs.declared.Refusal.{Refusal}
use Rattle.answer.specs.declared.Refusal.TheVariants.{CutShort, UnknownKind}
use Rattle.road.specs.declared.Source.{Source}
use Rattle.request.specs.declared.Request.{Request}
use Rattle.request.specs.declared.Reading.{Reading}
use Rattle.request.specs.Record.{kind_of, cut_short, reading, refused}
use Rattle.kinds.specs.declared.Kind.{Kind}
use Rattle.kinds.specs.declared.Kind.TheVariants.{PlaceReceiver, WithdrawReceiver, PlaceUncut, WithdrawSource, Ask, PlaceDaily, PlaceBetween, PlaceWall, WithdrawWall}

-- the number of a kind
abbrev pub number_of : Kind → ℕ
number_of PlaceReceiver = 1
number_of WithdrawReceiver = 2
number_of PlaceUncut = 3
number_of WithdrawSource = 4
number_of Ask = 5
number_of PlaceDaily = 6
number_of PlaceBetween = 7
number_of PlaceWall = 8
number_of WithdrawWall = 9

abbrev pub every_kind : List Kind
every_kind = PlaceReceiver ∷ WithdrawReceiver ∷ PlaceUncut ∷ WithdrawSource ∷ Ask ∷ PlaceDaily ∷ PlaceBetween ∷ PlaceWall ∷ WithdrawWall ∷ []

-- the first of some kinds that has a number
abbrev pub named_among : List Kind → ℕ → Option Kind
named_among [] n = None
named_among (k ∷ ks) n = cond (eqb (number_of k) n) (Some k) (named_among ks n)

-- the kind that a number names, if it is the number of one
unfoldable pub kind_named : ℕ → Option Kind
kind_named n = named_among every_kind n

-- ---- at the front of the bytes s

-- the kind that they begin with: refusal 2 where there is no byte, and 3 where their first bits are the number of none
abbrev pub kind_read : List ℕ → Result Kind Refusal
kind_read s = cond (eqb (length s) 0) (Err CutShort) (ok_or (kind_named (kind_of s)) UnknownKind)

-- the kind of the record there: refusal 2 also where its bytes are not all there
abbrev pub front_of : List ℕ → Result Kind Refusal
front_of s = cond (cut_short s) (Err CutShort) (ok_or (kind_named (kind_of s)) UnknownKind)

-- the reading of a call and a source beside it, or of a refusal
abbrev pub reading_by : Result (Request × Source) Refusal → Reading
reading_by (Ok (call, source)) = reading (Ok call) source
reading_by (Err why) = refused why
