-- One feed of a job that comes in pieces: which records it does, and what it leaves, for every input.
-- A record is done only where it is surely whole, and its line only where there is room.
use Rattle.std.specs.Prelude.{ℕ, zero, suc, ◌+◌, ◌-◌, ◌≤◌, ◌<◌, ◌≡◌, Bool, true, false, cond, ◌&&◌, ◌||◌, List, [], ◌++◌, leb, ltb, length, take, drop}
use Rattle.layout.specs.Layout.{Bytes}
use Rattle.request.specs.Kinds.{longest_record}
use Rattle.service.specs.Service.{done_to}
use Rattle.listing.specs.Listing.{line_room, line_of}
use Rattle.machine.specs.declared.State.{State}
use Rattle.machine.specs.declared.Progress.{Progress}
use Rattle.machine.specs.Job.{Listing, before, ended, list_from}

-- ---- what it leaves

-- the next record can be done: there are bytes, a line has room, and the record is surely whole, for no more bytes follow or the longest record is there
abbrev pub ready : Bool → ℕ → ℕ → Bool
ready over size room = (ltb 0 size && leb line_room room) && (over || leb longest_record size)

-- the state that a feed leaves, the bytes that it used, the store and the text
pub record Feed : Type 0 where
  pub state : State
  pub used : ℕ
  pub store : List ℕ
  pub text : List ℕ

-- nothing more is done
abbrev pub rests : State → List ℕ → Feed
rests x store = record { state = x; used = 0; store = store; text = [] }

abbrev pub waiting : ℕ → List ℕ → Feed
waiting n store = rests (record { count = n; stopped = false }) store

abbrev pub halted : ℕ → List ℕ → Feed
halted n store = rests (record { count = n; stopped = true }) store

-- a line and the bytes of its record in front of a feed
abbrev pub after : List ℕ → ℕ → Feed → Feed
after line e f = record { state = f.state; used = e + f.used; store = f.store; text = line ++ f.text }

abbrev pub halt_or : ℕ → Feed → Feed → Feed
halt_or zero halt rest = halt
halt_or (suc e) halt rest = rest

-- the bytes s fed after n records, with so much room for text, in so many turns at most
unfoldable pub feed_in : ℕ → Bool → ℕ → ℕ → List ℕ → List ℕ → Feed
feed_in zero over room n s store = waiting n store
feed_in (suc turns) over room n s store =
    let d = done_to s store in
    let line = line_of (n + 1) d.0.outcome in
    cond (ready over (length s) room)
    (after line d.0.extent
    (halt_or d.0.extent (halted (n + 1) d.1) (feed_in turns over (room - length line) (n + 1) (drop d.0.extent s) d.1)))
    (waiting n store)

unfoldable pub feed_from : Bool → ℕ → ℕ → List ℕ → List ℕ → Feed
feed_from over room n s store = feed_in (length s) over room n s store

-- a job that has stopped stays so
unfoldable pub feed_of : Bool → State → List ℕ → List ℕ → ℕ → Feed
feed_of over x s store room = cond x.stopped (rests x store) (feed_from over room x.count s store)

-- what `feed` gives back, the store, and the output: the text stands at its front, and the bytes past it stay
unfoldable pub leaves : Feed → List ℕ → Progress × List ℕ × List ℕ
leaves f out =
    (record { count = f.state.count; stopped = f.state.stopped; used = f.used; wrote = length f.text }, f.store, f.text ++ drop (length f.text) out)

-- ---- what it is for

-- what is left to list where a job stands so and the bytes s are still to be done
unfoldable pub left : State → List ℕ → List ℕ → Listing
left x s store = cond x.stopped (ended x.count store) (list_from x.count s store)

-- the text that is handed out, in front of what is then left, is what was left: whatever bytes come later, and none where the input is over
abbrev pub Fed : Bool → State → List ℕ → List ℕ → List ℕ → State → List ℕ → List ℕ → Type 0
Fed over x held store text x' held' store' =
    (later : List ℕ) → Bytes later → (over ≡ true → later ≡ []) → before text (left x' (held' ++ later) store') ≡ left x (held ++ later) store

abbrev pub state_of : Progress → State
state_of p = record { count = p.count; stopped = p.stopped }

pub record Feeds (over : Bool) (x : State) (held store out : List ℕ) (p : Progress) (store' out' : List ℕ) : Type 0 where
  pub used_within : p.used ≤ length held
  pub wrote_within : p.wrote ≤ length out
  pub count_within : p.count ≤ x.count + length held
  pub fed : Fed over x held store (take p.wrote out') (state_of p) (drop p.used held) store'
  -- it waits only for bytes, or for room: a record that is surely whole is done where a line has room
  pub waits : p.stopped ≡ false → p.wrote + line_room ≤ length out → (over ≡ true → p.used ≡ length held) × (length held - p.used < longest_record)
  -- and it hands out no text without using a byte
  pub moves : p.stopped ≡ false → p.used ≡ 0 → p.wrote ≡ 0
