-- A record by the daily figure (kind 6) comes to what the record of its counts (kind 3) comes to, on any store (METHOD 4).
-- `by_day` in proofs/ByDay.antt proves it.
use Rattle.std.specs.Prelude.{ℕ, ◌+◌, ◌≤◌, ◌≡◌, List, ◌∷◌, ◌++◌, length, take, drop}
use Rattle.layout.specs.Layout.{Bytes, size, fields, packed}
use Rattle.road.specs.Fields.{piece_table, road_table}
use Rattle.daily.specs.declared.Daily.{Daily}
use Rattle.daily.specs.Daily.{busiest, counts_of, daily_of}
use Rattle.request.specs.Kinds.{after_piece, at, layout_of, leftover_of}
use Rattle.request.specs.Record.{kind_of}
use Rattle.service.specs.declared.Deed.{Deed}
use Rattle.service.specs.Service.{done_to}

-- the numbers of a record of kind 6: its kind, its slot, the piece, the fields of the road, class and vehicles a day, and the leftover bits
abbrev pub numbers_of : List ℕ → List ℕ
numbers_of job = fields (layout_of 6) job

abbrev pub figure_in : List ℕ → Daily
figure_in v = daily_of (after_piece (drop 2 v))

-- the record of kind 3 with the same slot, piece and road, and with the counts that class and vehicles a day stand for
abbrev pub spelled_out : List ℕ → List ℕ
spelled_out job =
    let v = numbers_of job in
    packed (layout_of 3) (3 ∷ at v 1 ∷ (take (length piece_table + length road_table) (drop 2 v) ++ counts_of (figure_in v)))

-- the same outcome, and the same bytes in the store
abbrev pub Alike : Deed × List ℕ → Deed × List ℕ → Type 0
Alike a b = (a.0.outcome ≡ b.0.outcome) × (a.1 ≡ b.1)

-- for any bytes that begin with a whole record of kind 6, with no leftover bit set and vehicles a day that are allowed, whatever its other
-- fields are; and for any store
pub record ByDay : Type 0 where
  pub alike : (job store : List ℕ) → Bytes job → kind_of job ≡ 6 → size (layout_of 6) ≤ length job → leftover_of 6 (numbers_of job) ≡ 0
      → 1 ≤ (figure_in (numbers_of job)).dtv → (figure_in (numbers_of job)).dtv ≤ busiest
      → Alike (done_to job store) (done_to (spelled_out job) store)
