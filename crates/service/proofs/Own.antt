-- What a record does depends on its own bytes alone: where it is whole, or refused 3, more bytes behind it change nothing.
-- Assumes nothing.
use Prim.Native.Nat.{ℕ, ◌≤◌, ◌<◌}
use mathlib.Core.Path.{◌≡◌, ap₂}
use mathlib.Core.List.{List, ◌++◌}
use native.Mathlib.Omega.{arith}
use lib.ListN.{length}
use Rattle.layout.specs.Layout.{Bytes}
use Rattle.request.specs.declared.Reading.{Reading}
use Rattle.request.specs.Kinds.{longest_record}
use Rattle.request.specs.Record.{kind_of, length_of}
use Rattle.request.proofs.Rows.{row_longest}
use Rattle.request.proofs.Own.{read_own, extent_own}
use Rattle.service.specs.Service.{deed, answer_told, done_to}

module _ (s t store : List ℕ) (b : Bytes t) (h : 0 < length s) where
  pub own : length_of s ≤ length s → done_to (s ++ t) store ≡ done_to s store
  unfolding done_to
  own l =
      ap₂ (λ (r : Reading) (n : ℕ). deed r.told n (answer_told r.told r.source store)) (read_own s t b h l) (extent_own s t b h l)

  -- so it is where the bytes of the longest record are there
  pub own_longest : longest_record ≤ length s → done_to (s ++ t) store ≡ done_to s store
  own_longest l = own (omega (arith, row_longest (kind_of s)))
