-- A call as 48 bytes, most significant first: the kind, the slot (two bytes), and the fields of a source, a receiver or a wall, each as wide
-- as its type.
-- The kinds are those of METHOD 3; one that is not listed is an ask.
use Rattle.std.specs.Prelude.{ℕ, ◌+◌, ◌*◌, List, [], ◌∷◌, cond, eqb, get_or}
use Rattle.course.specs.declared.Piece.{Piece}
use Rattle.course.specs.declared.Ends.{Ends}
use Rattle.course.specs.declared.Course.{Course}
use Rattle.course.specs.declared.Course.TheVariants.{Uncut, Between}
use Rattle.screen.specs.declared.Wall.{Wall}
use Rattle.road.specs.declared.Receiver.{Receiver}
use Rattle.road.specs.declared.Traffic.{Traffic}
use Rattle.road.specs.declared.Source.{Source}
use Rattle.daily.specs.declared.Daily.{Daily}
use Rattle.request.specs.declared.Counts.TheVariants.{ByPeriod, ByDay}
use Rattle.request.specs.declared.Request.{Request}
use Rattle.request.specs.declared.Request.TheVariants.{PlaceReceiver, WithdrawReceiver, PlaceSource, WithdrawSource, PlaceWall, WithdrawWall, Ask}

abbrev pub one : List ℕ → ℕ → ℕ
one s i = get_or s i 0

abbrev pub two : List ℕ → ℕ → ℕ
two s i = one s i * 256 + one s (i + 1)

abbrev pub four : List ℕ → ℕ → ℕ
four s i = two s i * 65536 + two s (i + 2)

abbrev pub traffic_at : List ℕ → ℕ → Traffic
traffic_at s i = record { m = four s i; p = two s (i + 4) }

-- of two ends the second stands where a length would, and its y in the last four bytes
abbrev pub raw_piece : List ℕ → Piece
raw_piece s = record { x = four s 3; y = four s 7; length = four s 11 }

abbrev pub raw_ends : List ℕ → Ends
raw_ends s = record { x1 = four s 3; y1 = four s 7; x2 = four s 11; y2 = four s 44 }

abbrev pub raw_course : List ℕ → Course
raw_course s = cond (eqb (one s 0) 7) (Between (raw_ends s)) (Uncut (raw_piece s))

abbrev pub raw_source : List ℕ → Source
raw_source s =
    record {
      course = raw_course s;
      lanes = one s 15;
      car = one s 16;
      truck = one s 17;
      surface = one s 18;
      gradient = one s 19;
      reflection = one s 20;
      walls = one s 21;
      height = two s 22;
      spacing = two s 24;
      traffic = traffic_at s 26 ∷ traffic_at s 32 ∷ traffic_at s 38 ∷ [];
    }

abbrev pub raw_receiver : List ℕ → Receiver
raw_receiver s = record { x = four s 3; y = four s 7; height = two s 11 }

-- in place of the traffic: what follows, too, the source beside the call takes for traffic, and nobody looks at it
abbrev pub raw_daily : List ℕ → Daily
raw_daily s = record { class = one s 26; dtv = four s 27 }

-- a wall has its ends where a road has them, and its height where that of parallel walls is
abbrev pub raw_wall : List ℕ → Wall
raw_wall s = record { ends = raw_ends s; height = two s 22 }

unfoldable pub call_by : ℕ → ℕ → Receiver → Piece → Daily → Wall → Request
call_by kind slot r p d w =
    get_or
    (Ask slot ∷ PlaceReceiver slot r ∷ WithdrawReceiver slot ∷ PlaceSource slot ByPeriod ∷ WithdrawSource slot ∷ Ask slot
    ∷ PlaceSource slot (ByDay p d) ∷ PlaceSource slot ByPeriod ∷ PlaceWall slot w ∷ WithdrawWall slot ∷ [])
    kind (Ask slot)

abbrev pub call_at : List ℕ → Request
call_at s = call_by (one s 0) (two s 1) (raw_receiver s) (raw_piece s) (raw_daily s) (raw_wall s)
