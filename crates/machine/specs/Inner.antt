-- What only inner functions promise: a line put into the output, a record done, bytes moved to the front.
-- A reader of the promises can pass over this file.
use Rattle.std.specs.Prelude.{ℕ, ◌+◌, ◌-◌, ◌≤◌, ◌≡◌, false, List, length, take, drop}
use Rattle.layout.specs.Over.{over}
use Rattle.store.specs.Store.{damaged}
use Rattle.service.specs.declared.Deed.{Deed}
use Rattle.listing.specs.Listing.{line_of}
use Rattle.machine.specs.declared.Entry.{Entry}

-- the text t put at a place of out: the place after it, which lies within, and out with it
pub record TextPut (at : ℕ) (t out : List ℕ) (next : ℕ) (with : List ℕ) : Type 0 where
  pub next_is : next ≡ at + length t
  pub within : next ≤ length out
  pub with_is : with ≡ over at t out

-- a record at the front of s done with the deed d: how far the next one is, the store left, which is undamaged, and the output with its line
pub record Entered (place n : ℕ) (s : List ℕ) (d : Deed × List ℕ) (out : List ℕ) (r : Entry) (left with : List ℕ) : Type 0 where
  pub extent : r.extent ≡ d.0.extent
  pub extent_within : r.extent ≤ length s
  pub left_is : left ≡ d.1
  pub left_sound : damaged left ≡ false
  pub line : TextPut place (line_of n d.0.outcome) out r.wrote with

-- the bytes from one place up to another
abbrev pub part : ℕ → ℕ → List ℕ → List ℕ
part from to s = take (to - from) (drop from s)
