-- The two records of METHOD 3 and 11 in bytes, read and written by computing.
-- Assumes nothing.
use Rattle.std.specs.Prelude.{Ok}
use Prim.Native.Nat.{ℕ}
use mathlib.Core.Path.{◌≡◌, refl}
use mathlib.Core.List.{List, [], ◌∷◌}
use lib.ListN.{replicate}
use Rattle.layout.specs.Layout as layout
use Rattle.layout.specs.Layout.{num, bits, fields, packed}
use Rattle.road.specs.declared.Receiver.{Receiver}
use Rattle.road.specs.Judge.{receiver_verdict}
use Rattle.request.specs.declared.Request.TheVariants.{PlaceReceiver, Ask}
use Rattle.request.specs.Record.{Written}
use Rattle.request.specs.Kinds.{blank, kind_at, verdict_of}
use Rattle.request.specs.Record.{reading, read_of, record_of, write_of}

abbrev home : Receiver
home = record { x = 100000; y = 100000; height = 400 }

-- 11 40 61 A8 00 61 A8 32 00
abbrev home_bytes : List ℕ
home_bytes = 17 ∷ 64 ∷ 97 ∷ 168 ∷ 0 ∷ 97 ∷ 168 ∷ 50 ∷ 0 ∷ []

-- 51 40
abbrev ask_bytes : List ℕ
ask_bytes = 81 ∷ 64 ∷ []

pub home_read : read_of home_bytes ≡ reading (Ok (PlaceReceiver 5 home)) blank
unfolding read_of kind_at verdict_of receiver_verdict bits num fields
home_read = refl

pub home_written : ◌≡◌ {A = Written × List ℕ} (write_of (PlaceReceiver 5 home) blank (replicate 9 0)) (Ok tt, home_bytes)
unfolding write_of record_of kind_at verdict_of receiver_verdict packed layout.bytes_of
home_written = refl

pub ask_read : read_of ask_bytes ≡ reading (Ok (Ask 5)) blank
unfolding read_of kind_at verdict_of bits num fields
ask_read = refl

pub ask_written : ◌≡◌ {A = Written × List ℕ} (write_of (Ask 5) blank (replicate 2 0)) (Ok tt, ask_bytes)
unfolding write_of record_of kind_at verdict_of packed layout.bytes_of
ask_written = refl
