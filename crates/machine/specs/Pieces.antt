-- A job that comes in pieces of any sizes: the machine holds what it has not used yet, and its texts, together, are the listing of the whole job.
use Rattle.std.specs.Prelude.{ℕ, ◌≤◌, ◌≡◌, Bool, true, false, List, [], ◌∷◌, ◌++◌, length, drop}
use Rattle.layout.specs.Layout.{Bytes}
use Rattle.listing.specs.Listing.{line_room, end_line}
use Rattle.machine.specs.declared.State.{State}
use Rattle.machine.specs.Job.{ListingRule, listing_of}
use Rattle.machine.specs.Feed.{feed_of}

-- a machine at work: its state, the bytes that it holds, the store, and the texts handed out so far, together
pub record Work : Type 0 where
  pub state : State
  pub held : List ℕ
  pub store : List ℕ
  pub text : List ℕ

abbrev pub begun : List ℕ → Work
begun store = record { state = record { count = 0; stopped = false }; held = []; store = store; text = [] }

-- what is held is fed once, with so much room: the rest that it did not use is held
abbrev pub fed_once : Bool → ℕ → Work → Work
fed_once over room w =
    let f = feed_of over w.state w.held w.store room in
    record { state = f.state; held = drop f.used w.held; store = f.store; text = w.text ++ f.text }

-- a piece comes in behind what is held
abbrev pub arrives : List ℕ → Work → Work
arrives piece w = record { state = w.state; held = w.held ++ piece; store = w.store; text = w.text }

-- a piece, which may be empty, and the room for text at its feed, which may be none
pub record Piece : Type 0 where
  pub bytes : List ℕ
  pub room : ℕ

-- one piece after the other
abbrev pub pieces : List Piece → Work → Work
pieces [] w = w
pieces (p ∷ ps) w = pieces ps (fed_once false p.room (arrives p.bytes w))

-- the input is over: what is held is fed, with the room that there is each time
abbrev pub rest : List ℕ → Work → Work
rest [] w = w
rest (room ∷ rooms) w = rest rooms (fed_once true room w)

-- the bytes of all pieces
abbrev pub together : List Piece → List ℕ
together [] = []
together (p ∷ ps) = p.bytes ++ together ps

abbrev pub AllBytes : List Piece → Type 0
AllBytes [] = Unit {0}
AllBytes (p ∷ ps) = Bytes p.bytes × AllBytes ps

-- every room holds a line
abbrev pub Roomy : List ℕ → Type 0
Roomy [] = Unit {0}
Roomy (room ∷ rooms) = (line_room ≤ room) × Roomy rooms

-- all that is done with a job in pieces
abbrev pub worked : List Piece → List ℕ → List ℕ → Work
worked ps rooms store = rest rooms (pieces ps (begun store))

-- FED ANY PIECES, of any sizes, each with any room, and then the rest with room for a line each time, as often as there are bytes (fewer times
-- do where the rooms are large): the texts handed out, together, with the last line are the listing of the pieces together; the store is its store
abbrev pub AnyPieces : Type 0
AnyPieces = (ps : List Piece) (rooms store : List ℕ) → AllBytes ps → Roomy rooms → length (together ps) ≤ length rooms
    → let w = worked ps rooms store in (w.text ++ end_line w.state.count, w.store) ≡ listing_of (together ps) store

pub record JobTheorems : Type 0 where
  pub rule : ListingRule
  pub any_pieces : AnyPieces
