-- The listing of a whole job (METHOD 10): for any bytes and any store, the text that the job prints and the store that it leaves.
-- `done_to` says what one record does, `line_of` and `end_line` what is printed.
use Rattle.std.specs.Prelude.{ℕ, zero, suc, ◌+◌, ◌≤◌, ◌<◌, ◌≡◌, List, [], ◌∷◌, ◌++◌, length, drop}
use Rattle.layout.specs.Layout.{Bytes}
use Rattle.request.specs.Record.{length_of}
use Rattle.service.specs.declared.Deed.{Deed}
use Rattle.service.specs.Service.{done_to}
use Rattle.listing.specs.Listing.{line_of, end_line}

-- a text, and a store
abbrev pub Listing : Type 0
Listing = List ℕ × List ℕ

-- a text in front of a listing
abbrev pub before : List ℕ → Listing → Listing
before text l = (text ++ l.0, l.1)

-- the end: the last line has the number of records tried
abbrev pub ended : ℕ → List ℕ → Listing
ended n store = (end_line n, store)

-- 'an empty rest is the normal end, not a 2'
abbrev pub end_or : List ℕ → Listing → Listing → Listing
end_or [] end more = end
end_or (b ∷ s) end more = more

-- 'after 2 or 3 the job stops': the extent of such a record is 0. After any other the rest follows
abbrev pub stop_or : ℕ → Listing → Listing → Listing
stop_or zero stop rest = stop
stop_or (suc e) stop rest = rest

-- the listing of the bytes s after n records, in so many turns at most: the line of the next record, and then the rest
unfoldable pub list_in : ℕ → ℕ → List ℕ → List ℕ → Listing
list_in zero n s store = ended n store
list_in (suc turns) n s store =
    let d = done_to s store in
    end_or s (ended n store)
    (before (line_of (n + 1) d.0.outcome)
    (stop_or d.0.extent (ended (n + 1) d.1) (list_in turns (n + 1) (drop d.0.extent s) d.1)))

-- each record that is not the last takes a byte at least, so that as many turns as bytes are enough
unfoldable pub list_from : ℕ → List ℕ → List ℕ → Listing
list_from n s store = list_in (length s) n s store

-- THE LISTING OF A JOB: records count from 1
abbrev pub listing_of : List ℕ → List ℕ → Listing
listing_of job store = list_from 0 job store

-- ---- the same rule without turns

pub record ListingRule : Type 0 where
  -- an empty rest ends the job: END and the number of records tried
  pub ends : (n : ℕ) (store : List ℕ) → list_from n [] store ≡ ended n store
  -- a record refused 2 or 3 is printed, counts, and ends it
  pub stops : (n : ℕ) (s store : List ℕ) (d : Deed × List ℕ) → 0 < length s → done_to s store ≡ d → d.0.extent ≡ 0
      → list_from n s store ≡ before (line_of (n + 1) d.0.outcome) (ended (n + 1) d.1)
  -- after any other record's line comes the listing of the bytes behind it
  pub goes_on : (n : ℕ) (s store : List ℕ) (d : Deed × List ℕ) → 0 < length s → done_to s store ≡ d → 0 < d.0.extent
      → list_from n s store ≡ before (line_of (n + 1) d.0.outcome) (list_from (n + 1) (drop d.0.extent s) d.1)
  -- what a record does depends on its own bytes alone: where it is whole, or its kind is not listed, more bytes behind it change nothing
  pub own : (s later store : List ℕ) → Bytes later → 0 < length s → length_of s ≤ length s → done_to (s ++ later) store ≡ done_to s store
