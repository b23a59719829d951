-- Histories of the book: what a list of calls leaves standing, and the theorems about it (METHOD 1).
-- What stands is read off the calls and their answers, never off a store. The theorems say that the store agrees with it, whatever the calls.
use Rattle.std.specs.Prelude.{ℕ, zero, suc, ◌<◌, ◌≡◌, ◌≢◌, ◌↔◌, ◌⊎◌, Bool, true, false, cond, length, get_or, set, eqb, Ok, Err}
use Rattle.std.proofs.Math.Option.{Option, none, some}
use mathlib.Core.List.{List, [], ◌∷◌, ◌++◌, map, Memᴰ, Permᴰ}
use Rattle.answer.specs.Settled.{Agree}
use Rattle.answer.specs.Table.{Between}
use Rattle.screen.specs.declared.Wall.{Wall}
use Rattle.road.specs.declared.Source.{Source}
use Rattle.road.specs.declared.Receiver.{Receiver}
use Rattle.road.specs.Reach.{pair_of}
use Rattle.road.specs.Pairs.{is_heard, share_in}
use Rattle.road.specs.Judge.{source_verdict, receiver_verdict, wall_verdict}
use Rattle.index.specs.Index.{lden_of, lnight_of}
use Rattle.store.specs.declared.Held.{Held}
use Rattle.store.specs.Store.{Book, damaged, book_of, cleared_bytes, source_count, source_slots, receiver_slots, wall_slots}
use Rattle.calls.specs.Calls.{Answer}
use Rattle.calls.specs.declared.Reply.TheVariants.{Done, Levels}
use Rattle.ledger.specs.Lists.{omap, present, All, sum_of}
use Rattle.calls.specs.Calls.{number_in, place_in, used, place_source, withdraw_source, place_receiver, withdraw_receiver, place_wall, withdraw_wall}
use Rattle.calls.specs.Calls.{ask_receiver, on_store, clear_store}

-- ---- a history: any calls, the latest first, refused ones among them

pub data Call : Type 0 where
  Clear : Call
  PlaceSource : ℕ → Source → Call
  WithdrawSource : ℕ → Call
  PlaceReceiver : ℕ → Receiver → Call
  WithdrawReceiver : ℕ → Call
  PlaceWall : ℕ → Wall → Call
  WithdrawWall : ℕ → Call
  Ask : ℕ → Call

-- what a call answers and leaves of a store: the very definitions that the contracts cite
abbrev pub perform : Call → List ℕ → Answer × List ℕ
perform Clear b = clear_store b
perform (PlaceSource i s) b = on_store (place_source i s) b
perform (WithdrawSource i) b = on_store (withdraw_source i) b
perform (PlaceReceiver j r) b = on_store (place_receiver j r) b
perform (WithdrawReceiver j) b = on_store (withdraw_receiver j) b
perform (PlaceWall k w) b = on_store (place_wall k w) b
perform (WithdrawWall k) b = on_store (withdraw_wall k) b
perform (Ask j) b = on_store (ask_receiver j) b

-- the store after a history that began with a cleared one
unfoldable pub store_after : List Call → List ℕ
store_after [] = cleared_bytes
store_after (c ∷ h) = (perform c (store_after h)).1

-- the book in it
abbrev pub book_after : List Call → Book
book_after h = book_of (store_after h)

-- what one more call is answered
abbrev pub answer_to : List Call → Call → Answer
answer_to h c = (perform c (store_after h)).0

-- a source has three periods of traffic: code's type says so, but in antt they are a list of any length, and the store keeps three
abbrev pub RealCall : Call → Type 0
RealCall Clear = Unit {0}
RealCall (PlaceSource i s) = length s.traffic ≡ 3
RealCall (WithdrawSource i) = Unit {0}
RealCall (PlaceReceiver j r) = Unit {0}
RealCall (WithdrawReceiver j) = Unit {0}
RealCall (PlaceWall k w) = Unit {0}
RealCall (WithdrawWall k) = Unit {0}
RealCall (Ask j) = Unit {0}

-- the histories that code can make
abbrev pub Real : List Call → Type 0
Real h = All RealCall h

-- ---- what stands after a history

abbrev pub accepted : Answer → Bool
accepted (Ok Done) = true
accepted (Ok (Levels den night)) = true
accepted (Err r) = false

-- the calls that were accepted
unfoldable pub kept : List Call → List Call
kept [] = []
kept (c ∷ h) = cond (accepted (answer_to h c)) (c ∷ kept h) (kept h)

-- what an accepted call means to the slots of one party: slot i is entered, whoever was in it, or left, all are left, or nobody moves
pub data Move (A : Type 0) : Type 0 where
  enter : ℕ → A → Move A
  leave : ℕ → Move A
  all_leave : Move A
  still : Move A

abbrev pub source_move : Call → Move Source
source_move Clear = all_leave
source_move (PlaceSource i s) = enter i s
source_move (WithdrawSource i) = leave i
source_move (PlaceReceiver j r) = still
source_move (WithdrawReceiver j) = still
source_move (PlaceWall k w) = still
source_move (WithdrawWall k) = still
source_move (Ask j) = still

abbrev pub receiver_move : Call → Move Receiver
receiver_move Clear = all_leave
receiver_move (PlaceSource i s) = still
receiver_move (WithdrawSource i) = still
receiver_move (PlaceReceiver j r) = enter j r
receiver_move (WithdrawReceiver j) = leave j
receiver_move (PlaceWall k w) = still
receiver_move (WithdrawWall k) = still
receiver_move (Ask j) = still

abbrev pub wall_move : Call → Move Wall
wall_move Clear = all_leave
wall_move (PlaceSource i s) = still
wall_move (WithdrawSource i) = still
wall_move (PlaceReceiver j r) = still
wall_move (WithdrawReceiver j) = still
wall_move (PlaceWall k w) = enter k w
wall_move (WithdrawWall k) = leave k
wall_move (Ask j) = still

module _ {A : Type 0} where
  -- who is in slot i after these moves, the latest first
  unfoldable pub last_at : List (Move A) → ℕ → Option A
  last_at [] i = none
  last_at (enter k a ∷ l) i = cond (eqb i k) (some a) (last_at l i)
  last_at (leave k ∷ l) i = cond (eqb i k) none (last_at l i)
  last_at (all_leave ∷ l) i = none
  last_at (still ∷ l) i = last_at l i

  -- f 0, f 1, .. up to f (n - 1)
  unfoldable pub in_slots : ℕ → (ℕ → A) → List A
  in_slots zero f = []
  in_slots (suc n) f = f zero ∷ in_slots n (λ k. f (suc k))

-- who stands in a slot
unfoldable pub standing_source : List Call → ℕ → Option Source
standing_source h i = last_at (map source_move (kept h)) i

unfoldable pub standing_receiver : List Call → ℕ → Option Receiver
standing_receiver h j = last_at (map receiver_move (kept h)) j

unfoldable pub standing_wall : List Call → ℕ → Option Wall
standing_wall h k = last_at (map wall_move (kept h)) k

-- and in all of them, from the lowest slot on
unfoldable pub standing_sources : List Call → List Source
standing_sources h = present (in_slots source_slots (standing_source h))

unfoldable pub standing_receivers : List Call → List Receiver
standing_receivers h = present (in_slots receiver_slots (standing_receiver h))

unfoldable pub standing_walls : List Call → List Wall
standing_walls h = present (in_slots wall_slots (standing_wall h))

-- the energy that a receiver gets, among walls, from sources in one period: 0 day, 1 evening, 2 night
abbrev pub total : List Wall → List Source → Receiver → ℕ → ℕ
total ws ss r period = sum_of (λ s. share_in (pair_of ws s r) period) ss

-- ---- first theorem: after every history the store holds just what stands, each receiver with the sums of what stands

pub record SumsOf (ws : List Wall) (ss : List Source) (x : Held) : Type 0 where
  pub day : x.sums.day ≡ total ws ss x.who 0
  pub evening : x.sums.evening ≡ total ws ss x.who 1
  pub night : x.sums.night ≡ total ws ss x.who 2

-- what an ask ought to answer
abbrev pub levels_of : List Wall → List Source → Receiver → Answer
levels_of ws ss r = Ok (Levels (lden_of (total ws ss r 0) (total ws ss r 1) (total ws ss r 2)) (lnight_of (total ws ss r 2)))

pub record HoldsWhatStands (h : List Call) : Type 0 where
  pub undamaged : damaged (store_after h) ≡ false
  -- slot by slot
  pub sources : (book_after h).sources ≡ in_slots source_slots (standing_source h)
  pub receivers : map (omap (λ x. x.who)) (book_after h).receivers ≡ in_slots receiver_slots (standing_receiver h)
  pub walls : (book_after h).walls ≡ in_slots wall_slots (standing_wall h)
  pub sums : (j : ℕ) (x : Held) → get_or (book_after h).receivers j none ≡ some x → SumsOf (standing_walls h) (standing_sources h) x
  pub levels : (j : ℕ) (r : Receiver) → j < receiver_slots → standing_receiver h j ≡ some r
      → answer_to h (Ask j) ≡ levels_of (standing_walls h) (standing_sources h) r

-- ---- second theorem: no history meets damage, found before all else or after it

abbrev pub NeverLate : List Call → Type 0
NeverLate h = (c : Call) → number_in (answer_to h c) ≢ 1

-- ---- third theorem: what stands decides which calls are accepted

-- among these walls, no bar between them
abbrev pub Hears : List Wall → Source → Receiver → Type 0
Hears ws s r = is_heard (pair_of ws s r) ≡ true

-- nor between any of these sources and any of these receivers
abbrev pub AllHear : List Wall → List Source → List Receiver → Type 0
AllHear ws ss rs = All (λ r. All (λ s. Hears ws s r) ss) rs

-- what a call has to meet, where `wall-slot`, `source-slot` and `seat` say who stands in each slot
module _ (wall-slot : ℕ → Option Wall) (source-slot : ℕ → Option Source) (seat : ℕ → Option Receiver) where
  -- the sources and the receivers that stand
  abbrev pub sources_now : List Source
  sources_now = present (in_slots source_slots source-slot)

  abbrev pub receivers_now : List Receiver
  receivers_now = present (in_slots receiver_slots seat)

  -- the walls that stand, and those that would, were wall slot k to hold o
  abbrev pub walls_now : List Wall
  walls_now = present (in_slots wall_slots wall-slot)

  abbrev pub walls_then : ℕ → Option Wall → List Wall
  walls_then k o = present (set (in_slots wall_slots wall-slot) k o)

  abbrev pub Rule : Call → Type 0
  Rule Clear = Unit {0}
  Rule (PlaceSource i s) = (i < source_slots) × (source_verdict s ≡ Ok tt) × All (λ r. Hears walls_now s r) receivers_now
  Rule (WithdrawSource i) = (i < source_slots) × (used (source-slot i) ≡ true)
  Rule (PlaceReceiver j r) = (j < receiver_slots) × (receiver_verdict r ≡ Ok tt) × All (λ s. Hears walls_now s r) sources_now
  Rule (WithdrawReceiver j) = (j < receiver_slots) × (used (seat j) ≡ true)
  Rule (PlaceWall k w) = (k < wall_slots) × (wall_verdict w ≡ Ok tt) × AllHear (walls_then k (some w)) sources_now receivers_now
  Rule (WithdrawWall k) = (k < wall_slots) × (used (wall-slot k) ≡ true) × AllHear (walls_then k none) sources_now receivers_now
  Rule (Ask j) = (j < receiver_slots) × (used (seat j) ≡ true)

abbrev pub AcceptsByRule : List Call → Type 0
AcceptsByRule h = (c : Call) → (accepted (answer_to h c) ≡ true) ↔ Rule (standing_wall h) (standing_source h) (standing_receiver h) c

-- ---- fourth theorem: what stands, placed anew into any slots, the walls first and else in any order, is accepted and sounds the same

-- into a slot, an entry
pub record Put (A : Type 0) : Type 0 where
  pub slot : ℕ
  pub entry : A

pub data Placing : Type 0 where
  source : Put Source → Placing
  receiver : Put Receiver → Placing
  wall : Put Wall → Placing

abbrev pub as_call : Placing → Call
as_call (source x) = PlaceSource x.slot x.entry
as_call (receiver x) = PlaceReceiver x.slot x.entry
as_call (wall x) = PlaceWall x.slot x.entry

-- placings as a history, the last of the list done first
abbrev pub calls : List Placing → List Call
calls ks = map as_call ks

abbrev pub sources_in : List Placing → List (Put Source)
sources_in [] = []
sources_in (source x ∷ ks) = x ∷ sources_in ks
sources_in (receiver x ∷ ks) = sources_in ks
sources_in (wall x ∷ ks) = sources_in ks

abbrev pub receivers_in : List Placing → List (Put Receiver)
receivers_in [] = []
receivers_in (source x ∷ ks) = receivers_in ks
receivers_in (receiver x ∷ ks) = x ∷ receivers_in ks
receivers_in (wall x ∷ ks) = receivers_in ks

abbrev pub walls_in : List Placing → List (Put Wall)
walls_in [] = []
walls_in (source x ∷ ks) = walls_in ks
walls_in (receiver x ∷ ks) = walls_in ks
walls_in (wall x ∷ ks) = x ∷ walls_in ks

-- before a wall, neither a source nor a receiver is placed: what is placed before it stands behind it in the list
abbrev pub WallsFirst : List Placing → Type 0
WallsFirst [] = Unit {0}
WallsFirst (source x ∷ ks) = WallsFirst ks
WallsFirst (receiver x ∷ ks) = WallsFirst ks
WallsFirst (wall x ∷ ks) = (sources_in ks ≡ []) × (receivers_in ks ≡ [])

module _ {A : Type 0} where
  abbrev pub entries_of : List (Put A) → List A
  entries_of l = map (λ x. x.entry) l

  -- into slots below n, no two the same
  abbrev pub Apart : ℕ → List (Put A) → Type 0
  Apart n [] = Unit {0}
  Apart n (x ∷ l) = (x.slot < n) × All (λ y. x.slot ≢ y.slot) l × Apart n l

-- the placings ks are a rearrangement of just what stands after h, into slots of their own, the walls first
pub record Rebuilds (h : List Call) (ks : List Placing) : Type 0 where
  pub same_sources : Permᴰ (entries_of (sources_in ks)) (standing_sources h)
  pub same_receivers : Permᴰ (entries_of (receivers_in ks)) (standing_receivers h)
  pub same_walls : Permᴰ (entries_of (walls_in ks)) (standing_walls h)
  pub source_slots_lem : Apart source_slots (sources_in ks)
  pub receiver_slots_lem : Apart receiver_slots (receivers_in ks)
  pub wall_slots_lem : Apart wall_slots (walls_in ks)
  pub walls_first : WallsFirst ks

-- each call is accepted in its turn
abbrev pub AllAccepted : List Call → Type 0
AllAccepted [] = Unit {0}
AllAccepted (c ∷ h) = (accepted (answer_to h c) ≡ true) × AllAccepted h

-- a cleared store accepts them all; then each receiver has the account, and answers the levels, that it has after h
pub record Rebuilt (h : List Call) (ks : List Placing) : Type 0 where
  pub all_accepted : AllAccepted (calls ks)
  pub same_accounts : (j k : ℕ) (x y : Held) → get_or (book_after h).receivers j none ≡ some x → get_or (book_after (calls ks)).receivers k none ≡ some y
      → x.who ≡ y.who → x ≡ y
  pub same_levels : (x : Put Receiver) (j : ℕ) → Memᴰ x (receivers_in ks) → j < receiver_slots → standing_receiver h j ≡ some x.entry
      → answer_to (calls ks) (Ask x.slot) ≡ answer_to h (Ask j)

-- such placings there are: each into the slot where it stands, the walls last in the list and so placed first
module _ {A : Type 0} where
  abbrev pub in_place : ℕ → List (Option A) → List (Put A)
  in_place i [] = []
  in_place i (none ∷ l) = in_place (suc i) l
  in_place i (some a ∷ l) = record { slot = i; entry = a } ∷ in_place (suc i) l

unfoldable pub anew : List Call → List Placing
anew h =
    map source (in_place 0 (in_slots source_slots (standing_source h)))
    ++ (map receiver (in_place 0 (in_slots receiver_slots (standing_receiver h))) ++ map wall (in_place 0 (in_slots wall_slots (standing_wall h))))

-- ---- fifth theorem: what stands decides every byte of the store. So to set in one call is to withdraw and to place, wherever these are accepted

-- the same stands in every slot
pub record SameStands (g h : List Call) : Type 0 where
  pub sources : (i : ℕ) → standing_source g i ≡ standing_source h i
  pub receivers : (j : ℕ) → standing_receiver g j ≡ standing_receiver h j
  pub walls : (k : ℕ) → standing_wall g k ≡ standing_wall h k

-- whoever is in the slot of a placing is withdrawn
abbrev pub emptying : Placing → Call
emptying (source x) = WithdrawSource x.slot
emptying (receiver x) = WithdrawReceiver x.slot
emptying (wall x) = WithdrawWall x.slot

-- the placing alone is accepted, and leaves the bytes that it leaves after the withdrawal
pub record InOneCall (h : List Call) (k : Placing) : Type 0 where
  pub is_accepted : accepted (answer_to h (as_call k)) ≡ true
  pub leaves : store_after (as_call k ∷ h) ≡ store_after (as_call k ∷ emptying k ∷ h)

-- ---- what numbers the book may answer: done 0, damage 1, and 5 to 14 but not 8: a used slot is no reason to refuse

abbrev pub BookNumber : ℕ → Type 0
BookNumber n = (n ≡ 0) ⊎ ((n ≡ 1) ⊎ (Between 5 14 n × (n ≢ 8)))

-- ---- all together: for every history that code can make; the last ones, for any bytes at all

pub record Theorems : Type 0 where
  pub holds_what_stands : (h : List Call) → Real h → HoldsWhatStands h
  pub never_late : (h : List Call) → Real h → NeverLate h
  pub accepts_by_rule : (h : List Call) → Real h → AcceptsByRule h
  pub rebuilt : (h : List Call) → Real h → (ks : List Placing) → Rebuilds h ks → Rebuilt h ks
  pub anew_rebuilds : (h : List Call) → Rebuilds h (anew h)
  pub same_bytes : (g h : List Call) → Real g → Real h → SameStands g h → store_after g ≡ store_after h
  pub in_one_call : (h : List Call) → Real h → (k : Placing) → RealCall (as_call k)
      → accepted (answer_to h (emptying k)) ≡ true → accepted (answer_to (emptying k ∷ h) (as_call k)) ≡ true → InOneCall h k
  pub clear_forgets : (h : List Call) → Real h → (since : List Call) → store_after (since ++ Clear ∷ h) ≡ store_after since
  -- accepted are just the calls whose number is 0
  pub accepted_number : (a : Answer) → (accepted a ≡ true) ↔ (number_in a ≡ 0)
  pub numbers : (c : Call) (b : List ℕ) → BookNumber (number_in (perform c b).0)
  -- a place is a field's number or a slot, and neither is beyond the slots of sources
  pub places : (c : Call) (b : List ℕ) → place_in (perform c b).0 < source_count
  pub refused_leaves : (c : Call) (b : List ℕ) → accepted (perform c b).0 ≡ false → (perform c b).1 ≡ b
  pub stays_sound : (c : Call) → RealCall c → (b : List ℕ) → damaged b ≡ false → damaged (perform c b).1 ≡ false
  pub agrees : (c : Call) (b : List ℕ) → Agree (λ (o : Answer × List ℕ). o) (λ (o : Answer × List ℕ). o ≡ perform c b)
