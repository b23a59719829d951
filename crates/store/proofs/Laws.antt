-- Bytes and book say the same: an undamaged store is the bytes of its book, a sound book is the book of its bytes, and a write of a slot is
-- a change of one entry. Assumes nothing.
use Rattle.std.specs.Prelude.{Some, None, Option as RustOption}
use Prim.Native.Nat.{ℕ, zero, suc, ◌+◌, ◌*◌, ◌<◌}
use mathlib.Core.Logic.{◌≢◌}
use mathlib.Core.Path.{◌≡◌, refl, sym, ap, ap₂, ◌∙◌, subst}
use mathlib.Core.Bool.{Bool, true, false, not, ◌||◌}
use mathlib.Core.List.{List, [], ◌∷◌, ◌++◌, append-nil, append_assoc}
use mathlib.Core.Option.{Option, none, some}
use native.Mathlib.Omega.{arith}
use borrow.Author.Tests.{eqb-true, eq-eqb, ne_eqb, not-false}
use lib.Dec.{eqb}
use lib.ListN.{length, get_or, drop, set, replicate, length-append, length-set, length-replicate, drop_of_length-le, replicate-append-replicate}
use lib.Seq.{drop_at}
use Rattle.layout.specs.Layout.{Bytes}
use Rattle.layout.specs.Over.{over}
use Rattle.layout.proofs.Numbers.{bytes_append}
use Rattle.screen.specs.declared.Wall.{Wall}
use Rattle.road.specs.declared.Source.{Source}
use Rattle.store.specs.declared.Held.{Held}
use Rattle.store.specs.Slots.{slot_bytes, found, any_torn, bytes, Each, entry}
use Rattle.store.specs.Store.{source_count, receiver_count, wall_count, source_size, receiver_size, wall_size, source_slots, receiver_slots, wall_slots, split, walls_begin, store_length, source_party, held_party, wall_party, Book, book, damaged, book_of, book_bytes, cleared_bytes, empty_book, SourceStands, HeldStands, WallStands, SoundBook, source_at, receiver_at, wall_at, source_slot_of, seat_of, wall_slot_of}
use Rattle.store.proofs.Slots.{either_false, who_in, length_bytes, bytes_are, length_entries, place, entry_is, set_bytes, set_behind, bytes_none, part_bytes, part_read, entries_stand}
use Rattle.store.proofs.Parties.{source_lawful, held_lawful, wall_lawful}

-- ---- sizes

pub many_sources : source_slots ≡ source_count
unfolding source_slots
many_sources = refl

pub many_receivers : receiver_slots ≡ receiver_count
unfolding receiver_slots
many_receivers = refl

pub many_walls : wall_slots ≡ wall_count
unfolding wall_slots
many_walls = refl

sources_end : source_slots * source_size ≡ split
unfolding source_slots split
sources_end = refl

receivers_end : split + receiver_slots * receiver_size ≡ walls_begin
unfolding receiver_slots split walls_begin
receivers_end = refl

walls_end : walls_begin + wall_slots * wall_size ≡ store_length
unfolding wall_slots walls_begin store_length
walls_end = refl

-- ---- damage

-- what a store tells that is not damaged
pub undamaged : (s : List ℕ) → damaged s ≡ false
    → (length s ≡ store_length) × (any_torn (found source_party s) ≡ false) × (any_torn (found held_party (drop split s)) ≡ false) × (any_torn (found wall_party (drop walls_begin s)) ≡ false)
unfolding damaged
undamaged s e =
    let a = any_torn (found source_party s) in
    let b = any_torn (found held_party (drop split s)) in
    let c = any_torn (found wall_party (drop walls_begin s)) in
    let p = either_false (not (eqb (length s) store_length)) (a || (b || c)) e in
    let q = either_false a (b || c) p.1 in
    let r = either_false b c q.1 in
    (eqb-true (length s) store_length (not-false (eqb (length s) store_length) p.0), q.0, r.0, r.1)

-- a store of another length is damaged
pub wrong_length : (s : List ℕ) → length s ≢ store_length → damaged s ≡ true
unfolding damaged
wrong_length s h =
    ap (λ (b : Bool). not b || (any_torn (found source_party s) || (any_torn (found held_party (drop split s)) || any_torn (found wall_party (drop walls_begin s)))))
    (ne_eqb (length s) store_length h)

-- and one of the right length is where a slot of any kind is torn
pub torn_damage : (s : List ℕ) (a b c : Bool) → length s ≡ store_length → any_torn (found source_party s) ≡ a
    → any_torn (found held_party (drop split s)) ≡ b → any_torn (found wall_party (drop walls_begin s)) ≡ c → damaged s ≡ (a || (b || c))
unfolding damaged
torn_damage s a b c l e f g i = not (eq-eqb (length s) store_length l i) || (e i || (f i || g i))

-- ---- from bytes to the book and back

pub bytes_book : (s : List ℕ) → Bytes s → damaged s ≡ false → book_bytes (book_of s) ≡ s
unfolding book_bytes book_of
bytes_book s b h =
    let u = undamaged s h in
    let e = sources_end in
    let f = receivers_end in
    let g = walls_end in
    let x = bytes source_party (book_of s).sources in
    let y = bytes held_party (book_of s).receivers in
    let z = bytes wall_party (book_of s).walls in
    let p : x ++ drop split s ≡ s = part_bytes source_party SourceStands source_lawful source_slots 0 split s (omega arith) (omega arith) b u.1 in
    let q : y ++ drop walls_begin s ≡ drop split s = part_bytes held_party HeldStands held_lawful receiver_slots split walls_begin s f (omega arith) b u.2 in
    let r : z ++ drop store_length s ≡ drop walls_begin s = part_bytes wall_party WallStands wall_lawful wall_slots walls_begin store_length s g (omega arith) b u.3 in
    let n : drop store_length s ≡ [] = drop_of_length-le s {i = store_length} (omega arith) in
    ap (λ (t : List ℕ). x ++ t)
    (ap (λ (t : List ℕ). y ++ t) (sym (append-nil z) ∙ ap (λ (t : List ℕ). z ++ t) (sym n) ∙ r) ∙ q)
    ∙ p

pub sound_book : (s : List ℕ) → damaged s ≡ false → SoundBook (book_of s)
unfolding book_of
sound_book s h =
    let u = undamaged s h in
    record {
      source_slots_lem = length_entries source_party source_slots s ∙ many_sources;
      seats = length_entries held_party receiver_slots (drop split s) ∙ many_receivers;
      wall_slots_lem = length_entries wall_party wall_slots (drop walls_begin s) ∙ many_walls;
      sources_stand = entries_stand source_party SourceStands source_lawful source_slots s u.1;
      receivers_stand = entries_stand held_party HeldStands held_lawful receiver_slots (drop split s) u.2;
      walls_stand = entries_stand wall_party WallStands wall_lawful wall_slots (drop walls_begin s) u.3;
    }

-- what stands before the receivers, and before the walls
before_receivers : (b : Book) → SoundBook b → length (bytes source_party b.sources) ≡ split
before_receivers b h = length_bytes source_party b.sources ∙ ap (λ (k : ℕ). k * source_size) (h.source_slots_lem ∙ sym many_sources) ∙ sources_end

before_walls : (b : Book) → SoundBook b → length (bytes source_party b.sources ++ bytes held_party b.receivers) ≡ walls_begin
before_walls b h =
    length-append (bytes source_party b.sources) (bytes held_party b.receivers)
    ∙ ap₂ ◌+◌ (before_receivers b h) (length_bytes held_party b.receivers ∙ ap (λ (k : ℕ). k * receiver_size) (h.seats ∙ sym many_receivers))
    ∙ receivers_end

-- the last of three, with nothing behind it
last_of : (x y z : List ℕ) → x ++ (y ++ z) ≡ (x ++ y) ++ (z ++ [])
last_of x y z = sym (append_assoc x y z) ∙ ap (λ (t : List ℕ). (x ++ y) ++ t) (sym (append-nil z))

pub length_bytes_of : (b : Book) → SoundBook b → length (book_bytes b) ≡ store_length
unfolding book_bytes
length_bytes_of b h =
    let x = bytes source_party b.sources in
    let y = bytes held_party b.receivers in
    let z = bytes wall_party b.walls in
    ap length (sym (append_assoc x y z)) ∙ length-append (x ++ y) z
    ∙ ap₂ ◌+◌ (before_walls b h) (length_bytes wall_party b.walls ∙ ap (λ (k : ℕ). k * wall_size) (h.wall_slots_lem ∙ sym many_walls))
    ∙ walls_end

pub bytes_of_bytes : (b : Book) → Bytes (book_bytes b)
unfolding book_bytes
bytes_of_bytes b =
    let y = bytes held_party b.receivers in
    let z = bytes wall_party b.walls in
    bytes_append (bytes source_party b.sources) (y ++ z) (bytes_are source_party b.sources)
    (bytes_append y z (bytes_are held_party b.receivers) (bytes_are wall_party b.walls))

pub book_bytes_lem : (b : Book) → SoundBook b → (damaged (book_bytes b) ≡ false) × (book_of (book_bytes b) ≡ b)
unfolding book_bytes book_of
book_bytes_lem b h =
    let x = bytes source_party b.sources in
    let y = bytes held_party b.receivers in
    let z = bytes wall_party b.walls in
    let s = x ++ (y ++ z) in
    let d : drop split s ≡ y ++ z = drop_at x (y ++ z) split (before_receivers b h) in
    let e : drop walls_begin s ≡ z ++ [] = ap (drop walls_begin) (last_of x y z) ∙ drop_at (x ++ y) (z ++ []) walls_begin (before_walls b h) in
    let p = part_read source_party SourceStands source_lawful b.sources source_slots s (y ++ z) h.sources_stand (h.source_slots_lem ∙ sym many_sources) refl in
    let q = part_read held_party HeldStands held_lawful b.receivers receiver_slots (drop split s) z h.receivers_stand (h.seats ∙ sym many_receivers) d in
    let r = part_read wall_party WallStands wall_lawful b.walls wall_slots (drop walls_begin s) [] h.walls_stand (h.wall_slots_lem ∙ sym many_walls) e in
    (torn_damage s false false false (length_bytes_of b h) p.0 q.0 r.0, λ i. book (p.1 i) (q.1 i) (r.1 i))

-- ---- one slot

pub source_slot_is : (s : List ℕ) (i : ℕ) → damaged s ≡ false → i < source_count → get_or (book_of s).sources i none ≡ entry (source_slot_of (source_at i s))
unfolding book_of source_slot_of
source_slot_is s i h l = entry_is source_party source_slots i s (rw many_sources l) (undamaged s h).1

pub seat_is : (s : List ℕ) (j : ℕ) → damaged s ≡ false → j < receiver_count → get_or (book_of s).receivers j none ≡ entry (seat_of (receiver_at j s))
unfolding book_of seat_of
seat_is s j h l = entry_is held_party receiver_slots j (drop split s) (rw many_receivers l) (undamaged s h).2 ∙ ap (who_in held_party) (place held_party split j s)

pub wall_slot_is : (s : List ℕ) (k : ℕ) → damaged s ≡ false → k < wall_count → get_or (book_of s).walls k none ≡ entry (wall_slot_of (wall_at k s))
unfolding book_of wall_slot_of
wall_slot_is s k h l = entry_is wall_party wall_slots k (drop walls_begin s) (rw many_walls l) (undamaged s h).3 ∙ ap (who_in wall_party) (place wall_party walls_begin k s)

-- what a slot that was read says of the book
in_use : {A : Type 0} (P : A → Type 0) (l : List (Option A)) (i : ℕ) (o : RustOption A) (a : A) → Each P l → get_or l i none ≡ entry o → o ≡ Some a
    → (get_or l i none ≡ some a) × P a
in_use P l i o a h e u = let f = e ∙ ap entry u in (f, h i a f)

pub source_slot_used : (s : List ℕ) (i : ℕ) → damaged s ≡ false → i < source_count → (a : Source) → source_slot_of (source_at i s) ≡ Some a
    → (get_or (book_of s).sources i none ≡ some a) × SourceStands a
source_slot_used s i h l a u = in_use SourceStands (book_of s).sources i _ a (sound_book s h).sources_stand (source_slot_is s i h l) u

pub source_slot_free : (s : List ℕ) (i : ℕ) → damaged s ≡ false → i < source_count → source_slot_of (source_at i s) ≡ None → get_or (book_of s).sources i none ≡ none
source_slot_free s i h l u = source_slot_is s i h l ∙ ap entry u

pub seat_used : (s : List ℕ) (j : ℕ) → damaged s ≡ false → j < receiver_count → (a : Held) → seat_of (receiver_at j s) ≡ Some a
    → (get_or (book_of s).receivers j none ≡ some a) × HeldStands a
seat_used s j h l a u = in_use HeldStands (book_of s).receivers j _ a (sound_book s h).receivers_stand (seat_is s j h l) u

pub seat_free : (s : List ℕ) (j : ℕ) → damaged s ≡ false → j < receiver_count → seat_of (receiver_at j s) ≡ None → get_or (book_of s).receivers j none ≡ none
seat_free s j h l u = seat_is s j h l ∙ ap entry u

pub wall_slot_used : (s : List ℕ) (k : ℕ) → damaged s ≡ false → k < wall_count → (a : Wall) → wall_slot_of (wall_at k s) ≡ Some a
    → (get_or (book_of s).walls k none ≡ some a) × WallStands a
wall_slot_used s k h l a u = in_use WallStands (book_of s).walls k _ a (sound_book s h).walls_stand (wall_slot_is s k h l) u

pub wall_slot_free : (s : List ℕ) (k : ℕ) → damaged s ≡ false → k < wall_count → wall_slot_of (wall_at k s) ≡ None → get_or (book_of s).walls k none ≡ none
wall_slot_free s k h l u = wall_slot_is s k h l ∙ ap entry u

-- ---- a write of a slot

pub set_source : (s : List ℕ) (i : ℕ) (o : Option Source) → Bytes s → damaged s ≡ false → i < source_count
    → over (i * source_size) (slot_bytes source_party o) s ≡ book_bytes (book (set (book_of s).sources i o) (book_of s).receivers (book_of s).walls)
unfolding book_bytes
set_source s i o b h l =
    ap (over (i * source_size) (slot_bytes source_party o)) (sym (bytes_book s b h))
    ∙ set_bytes source_party (book_of s).sources i o (bytes held_party (book_of s).receivers ++ bytes wall_party (book_of s).walls) (omega (arith, (sound_book s h).source_slots_lem))

pub set_held : (s : List ℕ) (j : ℕ) (o : Option Held) → Bytes s → damaged s ≡ false → j < receiver_count
    → over (split + j * receiver_size) (slot_bytes held_party o) s ≡ book_bytes (book (book_of s).sources (set (book_of s).receivers j o) (book_of s).walls)
unfolding book_bytes
set_held s j o b h l =
    let k = sound_book s h in
    ap (over (split + j * receiver_size) (slot_bytes held_party o)) (sym (bytes_book s b h))
    ∙ set_behind held_party (bytes source_party (book_of s).sources) split (book_of s).receivers j o (bytes wall_party (book_of s).walls) (before_receivers (book_of s) k)
    (omega (arith, k.seats))

pub set_wall : (s : List ℕ) (k : ℕ) (o : Option Wall) → Bytes s → damaged s ≡ false → k < wall_count
    → over (walls_begin + k * wall_size) (slot_bytes wall_party o) s ≡ book_bytes (book (book_of s).sources (book_of s).receivers (set (book_of s).walls k o))
unfolding book_bytes
set_wall s k o b h l =
    let x = bytes source_party (book_of s).sources in
    let y = bytes held_party (book_of s).receivers in
    let c = sound_book s h in
    ap (over (walls_begin + k * wall_size) (slot_bytes wall_party o)) (sym (bytes_book s b h) ∙ last_of x y (bytes wall_party (book_of s).walls))
    ∙ set_behind wall_party (x ++ y) walls_begin (book_of s).walls k o [] (before_walls (book_of s) c) (omega (arith, c.wall_slots_lem))
    ∙ sym (last_of x y (bytes wall_party (set (book_of s).walls k o)))

each_set : {A : Type 0} (P : A → Type 0) (l : List (Option A)) (i : ℕ) (o : Option A) → Each P l → ((a : A) → o ≡ some a → P a) → Each P (set l i o)
each_set P [] i o h k j a e = h j a e
each_set P (q ∷ l) zero o h k zero a e = k a e
each_set P (q ∷ l) zero o h k (suc j) a e = h (suc j) a e
each_set P (q ∷ l) (suc i) o h k zero a e = h 0 a e
each_set P (q ∷ l) (suc i) o h k (suc j) a e = each_set P l i o (λ x. h (suc x)) k j a e

-- a sound book with one entry changed to none or to one that stands is sound
pub sound_source : (b : Book) (i : ℕ) (o : Option Source) → SoundBook b → ((a : Source) → o ≡ some a → SourceStands a)
    → SoundBook (book (set b.sources i o) b.receivers b.walls)
sound_source b i o h k =
    record {
      source_slots_lem = length-set b.sources i o ∙ h.source_slots_lem;
      seats = h.seats;
      wall_slots_lem = h.wall_slots_lem;
      sources_stand = each_set SourceStands b.sources i o h.sources_stand k;
      receivers_stand = h.receivers_stand;
      walls_stand = h.walls_stand;
    }

pub sound_held : (b : Book) (j : ℕ) (o : Option Held) → SoundBook b → ((a : Held) → o ≡ some a → HeldStands a)
    → SoundBook (book b.sources (set b.receivers j o) b.walls)
sound_held b j o h k =
    record {
      source_slots_lem = h.source_slots_lem;
      seats = length-set b.receivers j o ∙ h.seats;
      wall_slots_lem = h.wall_slots_lem;
      sources_stand = h.sources_stand;
      receivers_stand = each_set HeldStands b.receivers j o h.receivers_stand k;
      walls_stand = h.walls_stand;
    }

pub sound_wall : (b : Book) (i : ℕ) (o : Option Wall) → SoundBook b → ((a : Wall) → o ≡ some a → WallStands a)
    → SoundBook (book b.sources b.receivers (set b.walls i o))
sound_wall b i o h k =
    record {
      source_slots_lem = h.source_slots_lem;
      seats = h.seats;
      wall_slots_lem = length-set b.walls i o ∙ h.wall_slots_lem;
      sources_stand = h.sources_stand;
      receivers_stand = h.receivers_stand;
      walls_stand = each_set WallStands b.walls i o h.walls_stand k;
    }

-- what a store holds: bytes without damage, and the book
pub record Holds (s : List ℕ) (b : Book) : Type 0 where
  pub bytes : Bytes s
  pub whole : damaged s ≡ false
  pub is : book_of s ≡ b

pub holds_bytes : (b : Book) → SoundBook b → Holds (book_bytes b) b
holds_bytes b h = let e = book_bytes_lem b h in record { bytes = bytes_of_bytes b; whole = e.0; is = e.1 }

-- bytes that are those of a sound book hold it
holds_as : (s : List ℕ) (b : Book) → s ≡ book_bytes b → SoundBook b → Holds s b
holds_as s b e h = subst (λ (t : List ℕ). Holds t b) (sym e) (holds_bytes b h)

-- ---- a cleared store

cleared_is : cleared_bytes ≡ book_bytes empty_book
unfolding cleared_bytes book_bytes
cleared_is =
    let x = source_slots * source_size in
    let y = receiver_slots * receiver_size in
    let z = wall_slots * wall_size in
    let n : x + (y + z) ≡ store_length = omega (arith, sources_end, receivers_end, walls_end) in
    sym
    (ap₂ (λ (a b : List ℕ). a ++ b) (bytes_none source_party source_slots)
    (ap₂ (λ (a b : List ℕ). a ++ b) (bytes_none held_party receiver_slots) (bytes_none wall_party wall_slots) ∙ replicate-append-replicate y z 0)
    ∙ replicate-append-replicate x (y + z) 0 ∙ ap (λ (k : ℕ). replicate k 0) n)

each_none : {A : Type 0} (P : A → Type 0) (n : ℕ) → Each P (replicate n none)
each_none P zero i a e = absurd (let z : ◌≡◌ {A = ℕ} 0 1 = cc in omega arith)
each_none P (suc n) zero a e = absurd (let z : ◌≡◌ {A = ℕ} 0 1 = cc in omega arith)
each_none P (suc n) (suc i) a e = each_none P n i a e

pub sound_empty : SoundBook empty_book
sound_empty =
    record {
      source_slots_lem = length-replicate {A = Option Source} source_slots none ∙ many_sources;
      seats = length-replicate {A = Option Held} receiver_slots none ∙ many_receivers;
      wall_slots_lem = length-replicate {A = Option Wall} wall_slots none ∙ many_walls;
      sources_stand = each_none SourceStands source_slots;
      receivers_stand = each_none HeldStands receiver_slots;
      walls_stand = each_none WallStands wall_slots;
    }

pub cleared : Holds cleared_bytes empty_book
cleared = holds_as cleared_bytes empty_book cleared_is sound_empty
