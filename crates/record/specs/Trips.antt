-- The round trips of a record, for every kind, and its part (METHOD 3).
-- They are about `read_of` and `write_of`, the definitions that the contracts cite. `trips` in proofs/Trips.antt proves them all.
use Rattle.std.specs.Prelude.{ℕ, ◌≤◌, ◌≡◌, List, [], ◌++◌, length, take, drop, Ok, Err}
use Rattle.layout.specs.Layout.{Bytes}
use Rattle.answer.specs.declared.Refusal.{Refusal}
use Rattle.road.specs.declared.Source.{Source}
use Rattle.request.specs.declared.Request.{Request}
use Rattle.request.specs.Record.{Written}
use Rattle.request.specs.Kinds.{source_with}
use Rattle.request.specs.Record.{reading, read_of, extent_of, part_of, write_of}

pub record Trips : Type 0 where
  -- a record that is read, and written again where there is room for it: the same bytes, and the output past them stays
  pub write_read : (job out : List ℕ) (call : Request) (source : Source) → Bytes job → extent_of job ≤ length out
      → read_of job ≡ reading (Ok call) source
      → ◌≡◌ {A = Written × List ℕ} (write_of call source out) (Ok tt, take (extent_of job) job ++ drop (extent_of job) out)
  -- a call that is written, and read again: the same call, and its source where it has one. (A source of the code has three periods)
  pub read_written : (call : Request) (source : Source) (out after : List ℕ) → Bytes out → length source.traffic ≡ 3
      → ◌≡◌ {A = Written × List ℕ} (write_of call source out) (Ok tt, after)
      → read_of after ≡ reading (Ok call) (source_with call source)
  -- the part of a record that is read is its bytes, from the first of the job on
  pub part_read : (job : List ℕ) (call : Request) → (read_of job).told ≡ Ok call → part_of job ≡ take (extent_of job) job
  -- the part of a record that is refused is empty
  pub part_refused : (job : List ℕ) (why : Refusal) → (read_of job).told ≡ Err why → part_of job ≡ []
