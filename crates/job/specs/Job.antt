-- What the program promises, over what `read` delivers and what `write` takes: the bytes at hand, a turn, and a whole run.
-- The listing itself is defined in the crate `machine`; no contract can say which bytes the C library's `read` and `write` move.
use Rattle.std.specs.Prelude.{ℕ, ◌+◌, ◌-◌, ◌≤◌, ◌<◌, ◌≡◌, Bool, true, false, List, [], ◌++◌, length, take}
use Rattle.layout.specs.Layout.{Bytes}
use Rattle.request.specs.Kinds.{longest_record}
use Rattle.store.specs.Store.{damaged, cleared_bytes}
use Rattle.listing.specs.Listing.{line_room, end_line}
use Rattle.machine.specs.declared.State.{State}
use Rattle.machine.specs.Job.{listing_of}
use Rattle.machine.specs.Feed.{Fed}
use Rattle.machine.specs.Inner.{part}
use Rattle.job.specs.declared.pipe.Hand.{Hand}
use Rattle.job.specs.declared.pipe.Stand.{Stand}
use Rattle.job.specs.declared.pipe.Last.{Last}
use Rattle.job.specs.declared.pipe.End.{End}

-- ---- the bytes at hand

-- the bytes at hand are those that were at hand, and then what `read` delivered
pub record Follows (over : Bool) (was s : List ℕ) (h : Hand) : Type 0 where
  pub ordered : h.from ≤ h.to
  pub within : h.to ≤ length s
  -- what `read` delivered
  pub more : List ℕ
  pub more_bytes : Bytes more
  pub are : part h.from h.to s ≡ was ++ more
  -- the input is over only where nothing was delivered, and stays over
  pub quiet : h.over ≡ true → more ≡ []
  pub stays_over : over ≡ true → h.over ≡ true
  -- and where less than the longest record is at hand, more is fetched
  pub fetches : h.over ≡ false → length was < longest_record → 0 < length more

abbrev pub state_in : Stand → State
state_in s = record { count = s.count; stopped = s.stopped }

abbrev pub at_hand : Stand → List ℕ → List ℕ
at_hand s input = part s.from s.to input

-- a turn that is done leaves nothing that it could do: where a line has room, no byte if the input is over, and else less than the longest record
abbrev pub Waits : Stand → List ℕ → Type 0
Waits r output = r.stopped ≡ false → r.wrote + line_room ≤ length output → (r.over ≡ true → r.from ≡ r.to) × (r.to - r.from < longest_record)

-- the records at hand are done: their text stands at the front of the output, and no byte is passed over
pub record Advanced (hand : Hand) (x : State) (input store : List ℕ) (r : Stand) (store' output' : List ℕ) : Type 0 where
  pub start_is : r.start ≡ hand.from
  pub to_is : r.to ≡ hand.to
  pub over_is : r.over ≡ hand.over
  pub ordered : r.from ≤ r.to
  pub few : r.count ≤ x.count + 65536
  pub sound : damaged store' ≡ false
  pub fed : Fed hand.over x (part hand.from hand.to input) store (take r.wrote output') (state_in r) (at_hand r input) store'
  pub waits : Waits r output'

-- ---- ONE TURN: what was at hand, and then what `read` delivered, is at hand; a feed of it hands out the text at the front of the output

pub record Turned (s : Stand) (input store : List ℕ) (r : Stand) (input' store' output' : List ℕ) : Type 0 where
  pub ordered : r.from ≤ r.to
  pub within : r.to ≤ length input'
  pub few : r.count ≤ s.count + 65536
  pub sound : damaged store' ≡ false
  -- what `read` delivered: the bytes of the input behind those that were at hand
  pub more : List ℕ
  pub more_bytes : Bytes more
  pub are : part r.start r.to input' ≡ at_hand s input ++ more
  pub quiet : r.over ≡ true → more ≡ []
  pub stays_over : s.over ≡ true → r.over ≡ true
  pub fed : Fed r.over (state_in s) (at_hand s input ++ more) store (take r.wrote output') (state_in r) (at_hand r input') store'
  -- it gets on: where less than the longest record was at hand, bytes came or the input is over; and it leaves nothing that it could do
  pub fetches : r.over ≡ false → length (at_hand s input) < longest_record → 0 < length more
  pub waits : r.unread ≡ false → Waits r output'

-- the last line stands at the front of the output
pub record Ended (count : ℕ) (r : Last) (output' : List ℕ) : Type 0 where
  pub within : r.wrote ≤ length output'
  pub last : take r.wrote output' ≡ end_line count

-- ---- A WHOLE RUN, from a cleared store

-- of the bytes that `read` delivered, all turns joined (`arrived`), and the texts handed to `write`, joined (`text`): where the listing was written
-- whole, the text with the last line, which stands at the front of the output, is the listing of what arrived, and of anything behind it
-- where the job stopped before the input was over; and the store is its store
pub record Ran (r : End) (store' output' : List ℕ) : Type 0 where
  pub sound : damaged store' ≡ false
  pub arrived : List ℕ
  pub text : List ℕ
  pub lists : r.whole ≡ true → (later : List ℕ) → Bytes later → (r.over ≡ true → later ≡ [])
      → (text ++ take r.wrote output', store') ≡ listing_of (arrived ++ later) cleared_bytes
  pub last : r.whole ≡ true → take r.wrote output' ≡ end_line r.count
