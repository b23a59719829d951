-- Where the slots of a party stand in the store, as the code that is one for all parties asks it; and that it is so of the three.
use Rattle.std.specs.Prelude.{ℕ, ◌+◌, ◌*◌, ◌≤◌, ◌≡◌, refl, true, List, length, take, drop, Option as RustOption}
use Rattle.std.proofs.Math.Dec.{lit≤}
use Rattle.std.proofs.Math.Nat.{zero-add}
use Rattle.std.proofs.Common.{sym}
use Rattle.layout.specs.Layout.{sized, fields}
use Rattle.store.specs.Slots.{Party, party_layout, slot_size, read_by}
use Rattle.store.specs.Store.{source_count, receiver_count, wall_count, source_slots, receiver_slots, wall_slots, source_size, receiver_size, wall_size, split, walls_begin, store_length, source_party, held_party, wall_party, source_at, receiver_at, wall_at, source_slot_of, seat_of, wall_slot_of}

-- a slot has n numbers, of widths that the layout can handle; there are `count` slots, which begin at `begin` and end within the store;
-- slot i begins at `place i`, `slot i` gives its bytes, and `reading` says who is in a slot as its mark says
pub record Placed {A : Type 0} (p : Party A) (n count begin : ℕ) (place : ℕ → ℕ) (slot : ℕ → List ℕ → List ℕ) (reading : List ℕ → RustOption A) : Type 0 where
  pub numbers : length (party_layout p) ≡ n
  pub handled : sized (party_layout p) ≡ true
  pub many : p.count ≡ count
  pub inside : begin + count * slot_size p ≤ store_length
  pub places : (i : ℕ) → place i ≡ begin + i * slot_size p
  pub slots : (i : ℕ) (s : List ℕ) → slot i s ≡ take (slot_size p) (drop (place i) s)
  pub reads : (s : List ℕ) → reading s ≡ read_by p (fields (party_layout p) s)

-- sources
abbrev pub source_place : ℕ → ℕ
source_place i = i * source_size

pub source_placed : Placed source_party (length (party_layout source_party)) source_count 0 source_place source_at source_slot_of
unfolding source_slots store_length source_slot_of
source_placed =
    record {
      numbers = refl;
      handled = refl;
      many = refl;
      inside = lit≤ tt;
      places = λ i. sym (zero-add (i * source_size));
      slots = λ i s. refl;
      reads = λ s. refl;
    }

-- receivers
abbrev pub receiver_place : ℕ → ℕ
receiver_place j = split + j * receiver_size

pub held_placed : Placed held_party (length (party_layout held_party)) receiver_count split receiver_place receiver_at seat_of
unfolding receiver_slots split store_length seat_of
held_placed =
    record {
      numbers = refl;
      handled = refl;
      many = refl;
      inside = lit≤ tt;
      places = λ j. refl;
      slots = λ j s. refl;
      reads = λ s. refl;
    }

-- walls
abbrev pub wall_place : ℕ → ℕ
wall_place k = walls_begin + k * wall_size

pub wall_placed : Placed wall_party (length (party_layout wall_party)) wall_count walls_begin wall_place wall_at wall_slot_of
unfolding wall_slots walls_begin store_length wall_slot_of
wall_placed =
    record {
      numbers = refl;
      handled = refl;
      many = refl;
      inside = lit≤ tt;
      places = λ k. refl;
      slots = λ k s. refl;
      reads = λ s. refl;
    }
