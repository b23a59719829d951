-- The kinds of record (METHOD 3): for each its layout, what its fields ask for, which are allowed, and its fields again.
-- A new kind is a new row of `kinds` and a new line for its call below it.
use Rattle.std.specs.Prelude.{ℕ, suc, ◌-◌, ◌^◌, max, List, [], ◌∷◌, ◌++◌, length, get_or, drop, Ok}
use Rattle.layout.specs.Layout.{size}
use Rattle.course.specs.declared.Course.{Course}
use Rattle.course.specs.declared.Course.TheVariants.{Uncut, Between}
use Rattle.screen.specs.Screen.{wall_of}
use Rattle.road.specs.declared.Source.{Source}
use Rattle.road.specs.Results.{Verdict}
use Rattle.road.specs.Fields.{piece_table, ends_table, source_table, receiver_table, wall_table, piece_of, ends_of, source_of, receiver_of, values_by, bits_by}
use Rattle.road.specs.Judge.{source_fields, receiver_fields, wall_fields, source_verdict, receiver_verdict, wall_verdict, slot_verdict}
use Rattle.daily.specs.Daily.{daily_bits, daily_fields, daily_of, counted, daily_verdict}
use Rattle.request.specs.declared.Counts.{Counts}
use Rattle.request.specs.declared.Counts.TheVariants.{ByPeriod, ByDay}
use Rattle.request.specs.declared.Request.{Request}
use Rattle.request.specs.declared.Request.TheVariants.{PlaceReceiver, WithdrawReceiver, PlaceSource, WithdrawSource, Ask, PlaceWall, WithdrawWall}

-- ---- what every record begins with, in bits: its kind, and field 1, the slot of a source, of a receiver or of a wall

abbrev pub kind_bits : ℕ
kind_bits = 4

abbrev pub source_slot_bits : ℕ
source_slot_bits = 9

abbrev pub receiver_slot_bits : ℕ
receiver_slot_bits = 6

abbrev pub wall_slot_bits : ℕ
wall_slot_bits = 6

-- ---- the table

pub record Kind : Type 0 where
  -- in bits: the kind, the fields, and the leftover bits where there are any
  pub widths : List ℕ
  -- how many fields there are
  pub fields : ℕ
  -- what the slot and the fields after it ask for
  pub call : ℕ → List ℕ → Request
  -- the source beside it, by the fields after the slot
  pub source : List ℕ → Source

-- a row of the table, by the bits of its slot, of the fields after it, and of what is left over
abbrev pub kind : ℕ → List ℕ → List ℕ → (ℕ → List ℕ → Request) → (List ℕ → Source) → Kind
kind slot ws left f g = record { widths = kind_bits ∷ slot ∷ (ws ++ left); fields = suc (length ws); call = f; source = g }

-- what stands beside a call that places no source
abbrev pub blank : Source
blank = source_of (Uncut (piece_of [])) []

-- what stands for every kind that has no row: it has no bytes, and so is refused
abbrev pub unlisted : Kind
unlisted = record { widths = []; fields = 0; call = λ slot v. Ask slot; source = λ v. blank }

-- what follows the middle and the length, or the two ends, of a source
abbrev pub after_piece : List ℕ → List ℕ
after_piece v = drop (length piece_table) v

abbrev pub after_ends : List ℕ → List ℕ
after_ends v = drop (length ends_table) v

-- row k is kind k; there is no kind 0
abbrev pub kinds : List Kind
kinds =
    unlisted
    -- 1: place receiver, 9 bytes
    ∷ kind receiver_slot_bits (bits_by receiver_table) (5 ∷ []) (λ slot v. PlaceReceiver slot (receiver_of v)) (λ v. blank)
    -- 2: withdraw receiver, 2 bytes
    ∷ kind receiver_slot_bits [] (6 ∷ []) (λ slot v. WithdrawReceiver slot) (λ v. blank)
    -- 3: place source, 30 bytes
    ∷ kind source_slot_bits (bits_by piece_table ++ bits_by source_table) []
    (λ slot v. PlaceSource slot ByPeriod) (λ v. source_of (Uncut (piece_of v)) (after_piece v))
    -- 4: withdraw source, 2 bytes
    ∷ kind source_slot_bits [] (3 ∷ []) (λ slot v. WithdrawSource slot) (λ v. blank)
    -- 5: ask, 2 bytes
    ∷ kind receiver_slot_bits [] (6 ∷ []) (λ slot v. Ask slot) (λ v. blank)
    -- 6: place a source by its daily figure, 20 bytes
    ∷ kind source_slot_bits (bits_by piece_table ++ daily_bits) (2 ∷ [])
    (λ slot v. PlaceSource slot (ByDay (piece_of v) (daily_of (after_piece v))))
    (λ v. counted (Uncut (piece_of v)) (daily_of (after_piece v)) (source_of (Uncut (piece_of v)) (after_piece v)))
    -- 7: place a source by its ends, 34 bytes
    ∷ kind source_slot_bits (bits_by ends_table ++ bits_by source_table) (1 ∷ [])
    (λ slot v. PlaceSource slot ByPeriod) (λ v. source_of (Between (ends_of v)) (after_ends v))
    -- 8: place a wall, 15 bytes
    ∷ kind wall_slot_bits (bits_by wall_table) (3 ∷ []) (λ slot v. PlaceWall slot (wall_of v)) (λ v. blank)
    -- 9: withdraw a wall, 2 bytes
    ∷ kind wall_slot_bits [] (6 ∷ []) (λ slot v. WithdrawWall slot) (λ v. blank)
    ∷ []

-- the bytes of the longest record: 34
abbrev pub longest_of : List Kind → ℕ
longest_of [] = 0
longest_of (k ∷ ks) = max (size k.widths) (longest_of ks)

abbrev pub longest_record : ℕ
longest_record = longest_of kinds

unfoldable pub kind_at : ℕ → Kind
kind_at k = get_or kinds k unlisted

-- empty where the kind is not listed
abbrev pub layout_of : ℕ → List ℕ
layout_of k = (kind_at k).widths

-- ---- the numbers of a record: the kind stands at place 0, and field i at place i

abbrev pub at : List ℕ → ℕ → ℕ
at v i = get_or v i 0

-- what those of kind k ask for, and the source beside it
abbrev pub call_in : ℕ → List ℕ → Request
call_in k v = (kind_at k).call (at v 1) (drop 2 v)

abbrev pub source_in : ℕ → List ℕ → Source
source_in k v = (kind_at k).source (drop 2 v)

-- the leftover bits stand after the last field
abbrev pub leftover_of : ℕ → List ℕ → ℕ
leftover_of k v = at v (suc (kind_at k).fields)

-- ---- of a call

-- the last slots that their bits can name, however many slots a book has
abbrev pub last_named_source : ℕ
last_named_source = 2 ^ source_slot_bits - 1

abbrev pub last_named_receiver : ℕ
last_named_receiver = 2 ^ receiver_slot_bits - 1

abbrev pub last_named_wall : ℕ
last_named_wall = 2 ^ wall_slot_bits - 1

-- whether a source is allowed, by how its traffic is told
abbrev pub counts_verdict : Counts → Source → Verdict
counts_verdict ByPeriod s = source_verdict s
counts_verdict (ByDay p d) s = daily_verdict (Uncut p) d s

-- whether it is allowed, by the limits of slots, receivers, sources and walls: refusals 5, 6 and 7
unfoldable pub verdict_of : Request → Source → Verdict
verdict_of (PlaceReceiver slot r) s = slot_verdict last_named_receiver slot (receiver_verdict r)
verdict_of (WithdrawReceiver slot) s = slot_verdict last_named_receiver slot (Ok tt)
verdict_of (PlaceSource slot counts) s = slot_verdict last_named_source slot (counts_verdict counts s)
verdict_of (WithdrawSource slot) s = slot_verdict last_named_source slot (Ok tt)
verdict_of (Ask slot) s = slot_verdict last_named_receiver slot (Ok tt)
verdict_of (PlaceWall slot w) s = slot_verdict last_named_wall slot (wall_verdict w)
verdict_of (WithdrawWall slot) s = slot_verdict last_named_wall slot (Ok tt)

-- its kind, which for a source depends on its course
abbrev pub course_kind : Course → ℕ
course_kind (Uncut p) = 3
course_kind (Between e) = 7

abbrev pub counts_kind : Counts → Source → ℕ
counts_kind ByPeriod s = course_kind s.course
counts_kind (ByDay p d) s = 6

abbrev pub kind_number : Request → Source → ℕ
kind_number (PlaceReceiver slot r) s = 1
kind_number (WithdrawReceiver slot) s = 2
kind_number (PlaceSource slot counts) s = counts_kind counts s
kind_number (WithdrawSource slot) s = 4
kind_number (Ask slot) s = 5
kind_number (PlaceWall slot w) s = 8
kind_number (WithdrawWall slot) s = 9

-- those of a source by its course: the kind, the slot, the course, the other fields, and the leftover bits
abbrev pub placed_fields : Course → ℕ → List ℕ → List ℕ
placed_fields (Uncut p) slot rest = 3 ∷ slot ∷ (values_by piece_table p ++ rest)
placed_fields (Between e) slot rest = 7 ∷ slot ∷ (values_by ends_table e ++ (rest ++ (0 ∷ [])))

-- its kind, its fields, and its leftover bits, which are zero
abbrev pub fields_of : Request → Source → List ℕ
fields_of (PlaceReceiver slot r) s = 1 ∷ slot ∷ (receiver_fields r ++ (0 ∷ []))
fields_of (WithdrawReceiver slot) s = 2 ∷ slot ∷ 0 ∷ []
fields_of (PlaceSource slot ByPeriod) s = placed_fields s.course slot (source_fields s)
fields_of (PlaceSource slot (ByDay p d)) s = 6 ∷ slot ∷ (values_by piece_table p ++ (daily_fields d s ++ (0 ∷ [])))
fields_of (WithdrawSource slot) s = 4 ∷ slot ∷ 0 ∷ []
fields_of (Ask slot) s = 5 ∷ slot ∷ 0 ∷ []
fields_of (PlaceWall slot w) s = 8 ∷ slot ∷ (wall_fields w ++ (0 ∷ []))
fields_of (WithdrawWall slot) s = 9 ∷ slot ∷ 0 ∷ []

-- the source that goes with it: by a daily figure, the one that it stands for
abbrev pub source_with : Request → Source → Source
source_with (PlaceReceiver slot r) s = blank
source_with (WithdrawReceiver slot) s = blank
source_with (PlaceSource slot ByPeriod) s = s
source_with (PlaceSource slot (ByDay p d)) s = counted (Uncut p) d s
source_with (WithdrawSource slot) s = blank
source_with (Ask slot) s = blank
source_with (PlaceWall slot w) s = blank
source_with (WithdrawWall slot) s = blank
