-- The store (docs/STORE.md) and the book that stands in it: three lists of slots, each not in use or with its entry.
use Rattle.std.specs.Prelude.{ℕ, ◌+◌, ◌-◌, ◌*◌, ◌≡◌, Bool, true, false, cond, not, ◌&&◌, ◌||◌, List, [], ◌∷◌, ◌++◌, length, get_or, take, drop, replicate, eqb, Ok, Err, Option as RustOption}
use Rattle.std.proofs.Math.Option.{Option, none}
use Rattle.layout.specs.Layout.{fields}
use Rattle.course.specs.declared.Course.{Course}
use Rattle.course.specs.declared.Course.TheVariants.{Uncut, Between}
use Rattle.screen.specs.declared.Wall.{Wall}
use Rattle.screen.specs.Screen.{wall_of}
use Rattle.road.specs.declared.Source.{Source}
use Rattle.road.specs.Results.{Verdict}
use Rattle.road.specs.Fields.{piece_table, ends_table, source_table, receiver_table, wall_table, piece_of, ends_of, source_of, receiver_of, values_by, slot_bits_by}
use Rattle.road.specs.Judge.{source_verdict, receiver_verdict, wall_verdict}
use Rattle.account.specs.declared.Account.{Account}
use Rattle.store.specs.declared.Held.{Held}
use Rattle.account.specs.Account.{sound}
use Rattle.store.specs.Slots.{Party, party_layout, slot_size, found, entries, any_torn, bytes, Each, read_by}

-- ---- how many slots there are: each number is said here and, for the code, in src/lib.rt

abbrev pub source_count : ℕ
source_count = 512

abbrev pub receiver_count : ℕ
receiver_count = 64

abbrev pub wall_count : ℕ
wall_count = 64

-- the last slots, from slot 0 on
abbrev pub last_source : ℕ
last_source = source_count - 1

abbrev pub last_receiver : ℕ
last_receiver = receiver_count - 1

abbrev pub last_wall : ℕ
last_wall = wall_count - 1

-- ---- the same numbers where nothing unfolds them unasked

unfoldable pub source_slots : ℕ
source_slots = source_count

unfoldable pub receiver_slots : ℕ
receiver_slots = receiver_count

unfoldable pub wall_slots : ℕ
wall_slots = wall_count

-- ---- the three parties: place 0 of a slot's numbers is the mark, and the rows of road's tables follow it

abbrev pub is_allowed : Verdict → Bool
is_allowed (Ok tt) = true
is_allowed (Err why) = false

-- a course is held as its form, of a byte, and four numbers: 0 with the middle, the length and a 0, or 1 with both ends
abbrev pub course_numbers : Course → List ℕ
course_numbers (Uncut p) = 0 ∷ (values_by piece_table p ++ (0 ∷ []))
course_numbers (Between e) = 1 ∷ values_by ends_table e

abbrev pub course_bits : List ℕ
course_bits = 8 ∷ slot_bits_by ends_table

-- which numbers are those of a course, and of which
abbrev pub is_course : List ℕ → Bool
is_course v = eqb (get_or v 0 0) 1 || (eqb (get_or v 0 0) 0 && eqb (get_or v 4 0) 0)

abbrev pub course_from : List ℕ → Course
course_from v = cond (eqb (get_or v 0 0) 1) (Between (ends_of (drop 1 v))) (Uncut (piece_of (drop 1 v)))

-- the fields of a source follow its course
abbrev pub source_from : List ℕ → Source
source_from v = source_of (course_from (drop 1 v)) (drop (1 + length course_bits) v)

-- a used source has a course, and breaks none of 5, 6 and 7
abbrev pub source_party : Party Source
source_party =
    record {
      widths = course_bits ++ slot_bits_by source_table;
      count = source_slots;
      from = source_from;
      to = λ s. course_numbers s.course ++ values_by source_table s;
      ok = λ v. is_course (drop 1 v) && is_allowed (source_verdict (source_from v));
    }

-- the account whose sums stand from place k on
abbrev pub account_at : ℕ → List ℕ → Account
account_at k v = record { day = get_or v k 0; evening = get_or v (k + 1) 0; night = get_or v (k + 2) 0 }

-- the sums follow the rows
abbrev pub held_from : List ℕ → Held
held_from v = record { who = receiver_of (drop 1 v); sums = account_at (1 + length receiver_table) v }

abbrev pub held_fields : Held → List ℕ
held_fields h = values_by receiver_table h.who ++ (h.sums.day ∷ h.sums.evening ∷ h.sums.night ∷ [])

-- nor does a used receiver, and none of its sums is above 512·10^15
abbrev pub held_party : Party Held
held_party =
    record {
      widths = slot_bits_by receiver_table ++ (64 ∷ 64 ∷ 64 ∷ []);
      count = receiver_slots;
      from = held_from;
      to = held_fields;
      ok = λ v. is_allowed (receiver_verdict (held_from v).who) && sound (held_from v).sums;
    }

-- a wall is its rows
abbrev pub wall_from : List ℕ → Wall
wall_from v = wall_of (drop 1 v)

-- nor does a used wall break 5
abbrev pub wall_party : Party Wall
wall_party =
    record {
      widths = slot_bits_by wall_table;
      count = wall_slots;
      from = wall_from;
      to = values_by wall_table;
      ok = λ v. is_allowed (wall_verdict (wall_from v));
    }

-- ---- sizes in bytes

abbrev pub source_size : ℕ
source_size = slot_size source_party

abbrev pub receiver_size : ℕ
receiver_size = slot_size held_party

abbrev pub wall_size : ℕ
wall_size = slot_size wall_party

-- where the receivers begin
unfoldable pub split : ℕ
split = source_count * source_size

-- and the walls
unfoldable pub walls_begin : ℕ
walls_begin = source_count * source_size + receiver_count * receiver_size

unfoldable pub store_length : ℕ
store_length = source_count * source_size + receiver_count * receiver_size + wall_count * wall_size

-- ---- the book

pub record Book : Type 0 where
  pub sources : List (Option Source)
  pub receivers : List (Option Held)
  pub walls : List (Option Wall)

abbrev pub book : List (Option Source) → List (Option Held) → List (Option Wall) → Book
book ss rs ws = record { sources = ss; receivers = rs; walls = ws }

-- METHOD 9, 'damaged': wrong length; a use mark neither yes nor no; an unused slot not all zero; a used slot without a course or
-- breaking 5, 6 or 7; a sum above 512·10^15
unfoldable pub damaged : List ℕ → Bool
damaged s =
    not (eqb (length s) store_length)
    || (any_torn (found source_party s) || (any_torn (found held_party (drop split s)) || any_torn (found wall_party (drop walls_begin s))))

-- the book that stands in bytes
unfoldable pub book_of : List ℕ → Book
book_of s = book (entries (found source_party s)) (entries (found held_party (drop split s))) (entries (found wall_party (drop walls_begin s)))

-- the bytes of a book
unfoldable pub book_bytes : Book → List ℕ
book_bytes b = bytes source_party b.sources ++ (bytes held_party b.receivers ++ bytes wall_party b.walls)

-- a cleared store
unfoldable pub cleared_bytes : List ℕ
cleared_bytes = replicate store_length 0

abbrev pub empty_book : Book
empty_book = book (replicate source_slots none) (replicate receiver_slots none) (replicate wall_slots none)

-- a book that a store can hold; the code's array of three periods is a list of three here
abbrev pub SourceStands : Source → Type 0
SourceStands s = (source_verdict s ≡ Ok tt) × (length s.traffic ≡ 3)

abbrev pub HeldStands : Held → Type 0
HeldStands h = (receiver_verdict h.who ≡ Ok tt) × (sound h.sums ≡ true)

abbrev pub WallStands : Wall → Type 0
WallStands w = wall_verdict w ≡ Ok tt

pub record SoundBook (b : Book) : Type 0 where
  pub source_slots_lem : length b.sources ≡ source_count
  pub seats : length b.receivers ≡ receiver_count
  pub wall_slots_lem : length b.walls ≡ wall_count
  pub sources_stand : Each SourceStands b.sources
  pub receivers_stand : Each HeldStands b.receivers
  pub walls_stand : Each WallStands b.walls

-- ---- one slot as it is read: who is in it, if its mark says used, with its fields as they stand

abbrev pub SourceSlot : Type 0
SourceSlot = RustOption Source

abbrev pub Seat : Type 0
Seat = RustOption Held

abbrev pub WallSlot : Type 0
WallSlot = RustOption Wall

-- the bytes of source slot i, of receiver slot j and of wall slot k
abbrev pub source_at : ℕ → List ℕ → List ℕ
source_at i s = take source_size (drop (i * source_size) s)

abbrev pub receiver_at : ℕ → List ℕ → List ℕ
receiver_at j s = take receiver_size (drop (split + j * receiver_size) s)

abbrev pub wall_at : ℕ → List ℕ → List ℕ
wall_at k s = take wall_size (drop (walls_begin + k * wall_size) s)

unfoldable pub source_slot_of : List ℕ → SourceSlot
source_slot_of s = read_by source_party (fields (party_layout source_party) s)

unfoldable pub seat_of : List ℕ → Seat
seat_of s = read_by held_party (fields (party_layout held_party) s)

unfoldable pub wall_slot_of : List ℕ → WallSlot
wall_slot_of s = read_by wall_party (fields (party_layout wall_party) s)
