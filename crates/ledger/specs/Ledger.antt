-- What becomes of a receiver on a source's round, the seats as they would be, what the sources bring to a receiver, and every account
-- afresh.
-- The book's calls are told without these values: a reader of the promises can pass over this file.
use Rattle.std.specs.Prelude.{ℕ, suc, ◌+◌, ◌≤◌, ◌≡◌, Bool, true, false, cond, List, [], ◌∷◌, map, length, get_or, set, Option as Maybe, Some, None, Result, Ok, Err}
use Rattle.std.proofs.Math.Option.{Option, none, some}
use Rattle.answer.specs.declared.Refusal.{Refusal}
use Rattle.answer.specs.declared.Refusal.TheVariants.{Damaged}
use Rattle.road.specs.declared.Source.{Source}
use Rattle.road.specs.declared.Receiver.{Receiver}
use Rattle.road.specs.declared.Bar.{Bar}
use Rattle.road.specs.declared.Shares.{Shares}
use Rattle.road.specs.Results.{Pair}
use Rattle.road.specs.Pairs.{Pairing, most_share}
use Rattle.road.specs.Judge.{receiver_verdict}
use Rattle.level.specs.Level.{top}
use Rattle.account.specs.declared.Account.{Account}
use Rattle.store.specs.declared.Held.{Held}
use Rattle.account.specs.Account.{plus_of, nothing}
use Rattle.store.specs.Store.{receiver_count, Book, book, Seat, WallSlot, HeldStands, WallStands}
use Rattle.ledger.specs.declared.round.Turn.{Turn}
use Rattle.ledger.specs.declared.round.Turn.TheVariants.{Moved, Barred, Late}
use Rattle.ledger.specs.declared.Tally.{Tally}
use Rattle.ledger.specs.Lists.{omap, present, every, bar_at, first_bar, weigh}
use Rattle.ledger.specs.Changes.{Change, follow, bar_of, exchanged, exchanges}

-- ---- one receiver

-- the account after the shares of a pair are exchanged for others
abbrev pub exchanged_by : Pair → Shares → Account → Turn
exchanged_by (Ok less) more a = cond (exchanges less more a) (Moved (exchanged less more a)) Late
exchanged_by (Err b) more a = Late

abbrev pub unless_bars : Pair → Turn → Turn
unless_bars (Ok h) t = t
unless_bars (Err b) t = Barred b

unfoldable pub turn_of : Change → Held → Turn
turn_of c x = unless_bars (c.tried x.who) (cond (c.fits x) (Moved (c.sums x)) Late)

-- ---- the round

-- a receiver's slot as the code holds it
abbrev pub to_seat : Option Held → Seat
to_seat none = None
to_seat (some x) = Some x

-- a walk over slots: where it stopped, or else what it comes to
abbrev pub unless_stopped : {A : Type 0} → Option Refusal → Result A Refusal → Result A Refusal
unless_stopped none k = k
unless_stopped (some why) k = Err why

-- what a round tells of a change: the first bar; if there is none, the late 1 where a receiver cannot follow; if all can, the seats after it
abbrev pub in_time : Bool → List Seat → Result (List Seat) Refusal
in_time true l = Ok l
in_time false l = Err Damaged

abbrev pub rounded : Change → List (Option Held) → Result (List Seat) Refusal
rounded c l = unless_stopped (bar_of c l) (in_time (every c.fits (present l)) (map to_seat (map (omap (follow c)) l)))

-- ---- seats written over receivers

abbrev pub seat_over : Seat → Option Held → Option Held
seat_over None o = o
seat_over (Some x) o = some x

unfoldable pub seated : List Seat → List (Option Held) → List (Option Held)
seated [] os = os
seated (t ∷ ts) [] = []
seated (t ∷ ts) (o ∷ os) = seat_over t o ∷ seated ts os

-- a book with one seat written
abbrev pub seated_at : Seat → ℕ → List (Option Held) → List (Option Held)
seated_at None j os = os
seated_at (Some x) j os = set os j (some x)

abbrev pub settled : Seat → ℕ → Book → Book
settled t j b = book b.sources (seated_at t j b.receivers) b.walls

-- each used seat may be in the book
abbrev pub SeatStands : Seat → Type 0
SeatStands None = Unit {0}
SeatStands (Some x) = HeldStands x

pub record StandingSeats (ts : List Seat) : Type 0 where
  pub count : length ts ≡ receiver_count
  pub stand : (j : ℕ) → SeatStands (get_or ts j None)

-- ---- what the sources bring to a receiver

abbrev pub offer_of : Pairing → Receiver → Option Source → Maybe Pair
offer_of pair r none = None
offer_of pair r (some s) = Some (pair s r)

-- the first bar; if there is none, the three sums
abbrev pub gathered : Pairing → Receiver → List (Option Source) → Result Account Refusal
gathered pair r l = unless_stopped (first_bar (λ (s : Source). pair s r) 0 l) (Ok (weigh pair (present l) r).sums)

-- ---- every account afresh: the seat of a receiver with the sums so far, and the first bar

abbrev pub Block : Type 0
Block = Maybe Bar

abbrev pub tally : Seat → Block → Tally
tally t b = record { seat = t; block = b }

abbrev pub begun : Option Held → Tally
begun none = tally None None
begun (some x) = tally (Some (record { who = x.who; sums = nothing })) None

-- the first bar stays
abbrev pub or_block : Block → Bar → Block
or_block None b = Some b
or_block (Some a) b = Some a

-- with one source more
abbrev pub heard_by : Pair → Held → Block → Tally
heard_by (Ok h) x b = tally (Some (record { who = x.who; sums = plus_of x.sums h })) b
heard_by (Err why) x b = tally (Some x) (or_block b why)

abbrev pub heard_in : Pairing → Source → Seat → Block → Tally
heard_in pair s None b = tally None b
heard_in pair s (Some x) b = heard_by (pair s x.who) x b

abbrev pub heard_from : Pairing → Source → Tally → Tally
heard_from pair s t = heard_in pair s t.seat t.block

-- all of them with the source of a slot more
abbrev pub heard_at : Pairing → Option Source → List Tally → List Tally
heard_at pair none ts = ts
heard_at pair (some s) ts = map (heard_from pair s) ts

-- and one with all sources
abbrev pub heard_all : Pairing → List Source → Tally → Tally
heard_all pair [] t = t
heard_all pair (s ∷ ss) t = heard_all pair ss (heard_from pair s t)

-- a point that is allowed, with room for one share more
pub record HasRoom (x : Held) : Type 0 where
  pub stands : receiver_verdict x.who ≡ Ok tt
  pub day : x.sums.day + most_share ≤ top
  pub evening : x.sums.evening + most_share ≤ top
  pub night : x.sums.night + most_share ≤ top

abbrev pub Ready : Seat → Type 0
Ready None = Unit {0}
Ready (Some x) = HasRoom x

pub record AllReady (ts : List Tally) : Type 0 where
  pub count : length ts ≡ receiver_count
  pub each : (j : ℕ) → Ready (get_or ts j (begun none)).seat

-- the first that is blocked
abbrev pub blocked_or : ℕ → Block → Option Refusal → Option Refusal
blocked_or j None o = o
blocked_or j (Some b) o = some (bar_at j b)

unfoldable pub first_block : ℕ → List Tally → Option Refusal
first_block j [] = none
first_block j (t ∷ ts) = blocked_or j t.block (first_block (suc j) ts)

-- a wall that is to stand may, if there is one
abbrev pub WallMayStand : WallSlot → Type 0
WallMayStand None = Unit {0}
WallMayStand (Some w) = WallStands w
