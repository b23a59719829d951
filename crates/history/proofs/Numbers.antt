-- The numbers that a call may be answered, for any store: 5 to 7 by slot and fields, 9 by a slot that is free, 10 to 14 by the pairs, and 1;
-- and the places, a field's number or a slot. Assumes nothing.
use Rattle.std.specs.Prelude.{Ok, Err}
use mathlib.Core.Path.{◌≡◌, refl}
use mathlib.Core.Logic.{inl, inr}
use mathlib.Core.Bool.{Bool, true, false, cond}
use mathlib.Core.Option.{Option, none, some}
use mathlib.Core.List.{List}
use Prim.Native.Nat.{ℕ, ◌<◌}
use native.Mathlib.Omega.{arith}
use lib.Dec.{eqb}
use lib.ListN.{length, get_or, set}
use Rattle.answer.specs.declared.Refusal.{Refusal}
use Rattle.answer.specs.declared.Refusal.TheVariants.{Damaged}
use Rattle.answer.specs.Table.{number_of, place_of}
use Rattle.screen.specs.declared.Wall.{Wall}
use Rattle.road.specs.declared.Source.{Source}
use Rattle.road.specs.declared.Receiver.{Receiver}
use Rattle.road.specs.Results.{Verdict}
use Rattle.road.specs.Reach.{pair_of}
use Rattle.road.specs.Judge.{source_verdict, receiver_verdict, wall_verdict, slot_verdict}
use Rattle.road.proofs.Judged.{ByFields, source_by, receiver_by, wall_by, slot_by_lem}
use Rattle.store.specs.Store.{source_count, last_source, last_receiver, last_wall, Book, SoundBook, damaged, book_of, store_length, cleared_bytes}
use Rattle.store.proofs.Laws.{sound_book}
use Rattle.ledger.specs.Lists.{present, every, first_bar}
use Rattle.ledger.specs.Changes.{Change, bar_of, exchange, renewing}
use Rattle.calls.specs.Calls.{Answer}
use Rattle.calls.specs.declared.Reply.TheVariants.{Done}
use Rattle.calls.specs.Calls.{number_in, place_in, Step, refuse, tell, change, allow, from_used, unless_barred, unless_late, pair_in}
use Rattle.calls.specs.Calls.{place_source, withdraw_source, place_receiver, withdraw_receiver, place_wall, withdraw_wall, ask_receiver, told, on_store}
use Rattle.calls.specs.Calls.{clear_store}
use Rattle.history.specs.History.{Call, Clear, PlaceSource, WithdrawSource, PlaceReceiver, WithdrawReceiver, PlaceWall, WithdrawWall, Ask, perform}
use Rattle.history.specs.History.{BookNumber}
use Rattle.history.proofs.Gates.{ByPair, bars_by}

-- ---- gate after gate

abbrev Row : ℕ → ℕ → Type 0
Row n place = BookNumber n × (place < source_count)

abbrev Told : Answer × List ℕ → Type 0
Told o = Row (number_in o.0) (place_in o.0)

abbrev Given : Step → Type 0
Given (refuse why) = Row (number_of why) (place_of why)
Given (tell a) = Row (number_in a) (place_in a)
Given (change b) = Unit {0}

given_fields : (v : Verdict) (k : Step) → ByFields v → Given k → Given (allow v k)
given_fields (Ok tt) k n g = g
given_fields (Err why) k n g = (inr (inr ((n.0, omega (arith, n.1)), λ e. omega (arith, n.1))), omega (arith, n.2))

given_used : {A : Type 0} (o : Option A) (k : A → Step) → ((a : A) → Given (k a)) → Given (from_used o k)
given_used none k g = (inr (inr ((omega arith, omega arith), λ e. omega arith)), omega arith)
given_used (some a) k g = g a

given_pairs : (o : Option Refusal) (k : Step) → ByPair source_count o → Given k → Given (unless_barred o k)
given_pairs none k n g = g
given_pairs (some why) k n g = (inr (inr ((omega (arith, n.0), n.1), λ e. omega (arith, n.0))), n.2)

given_late : (t : Bool) (k : Step) → Given k → Given (unless_late t k)
given_late true k g = g
given_late false k g = (inr (inl refl), omega arith)

-- ---- the calls

module _ (b : Book) (sound : SoundBook b) where
  -- whatever all receivers follow, and whatever it leaves
  given_followed : (c : Change) (x : Book)
      → Given (unless_barred (bar_of c b.receivers) (unless_late (every c.fits (present b.receivers)) (change x)))
  given_followed c x =
      given_pairs (bar_of c b.receivers) _ (bars_by _ source_count 0 b.receivers (omega (arith, sound.seats)))
      (given_late (every c.fits (present b.receivers)) _ tt)

  source_in : (i : ℕ) (s : Source) → Given (place_source i s b)
  unfolding place_source
  source_in i s =
      given_fields (slot_verdict last_source i (source_verdict s)) _ (slot_by_lem last_source i (source_verdict s) (source_by s))
      (given_followed (exchange (pair_in b) (get_or b.sources i none) (some s)) _)

  source_out : (i : ℕ) → Given (withdraw_source i b)
  unfolding withdraw_source
  source_out i =
      given_fields (slot_verdict last_source i (Ok tt)) _ (slot_by_lem last_source i (Ok tt) tt)
      (given_used (get_or b.sources i none) _ λ s. given_followed (exchange (pair_in b) (get_or b.sources i none) none) _)

  receiver_in : (j : ℕ) (r : Receiver) → Given (place_receiver j r b)
  unfolding place_receiver
  receiver_in j r =
      given_fields (slot_verdict last_receiver j (receiver_verdict r)) _ (slot_by_lem last_receiver j (receiver_verdict r) (receiver_by r))
      (given_pairs (first_bar (λ (s : Source). pair_in b s r) 0 b.sources) _ (bars_by _ source_count 0 b.sources (omega (arith, sound.source_slots_lem))) tt)

  receiver_out : (j : ℕ) → Given (withdraw_receiver j b)
  unfolding withdraw_receiver
  receiver_out j =
      given_fields (slot_verdict last_receiver j (Ok tt)) _ (slot_by_lem last_receiver j (Ok tt) tt) (given_used (get_or b.receivers j none) _ λ x. tt)

  wall_in : (k : ℕ) (w : Wall) → Given (place_wall k w b)
  unfolding place_wall
  wall_in k w =
      given_fields (slot_verdict last_wall k (wall_verdict w)) _ (slot_by_lem last_wall k (wall_verdict w) (wall_by w))
      (given_followed (renewing (pair_of (present (set b.walls k (some w)))) (present b.sources)) _)

  wall_out : (k : ℕ) → Given (withdraw_wall k b)
  unfolding withdraw_wall
  wall_out k =
      given_fields (slot_verdict last_wall k (Ok tt)) _ (slot_by_lem last_wall k (Ok tt) tt)
      (given_used (get_or b.walls k none) _ λ w. given_followed (renewing (pair_of (present (set b.walls k none))) (present b.sources)) _)

  asked : (j : ℕ) → Given (ask_receiver j b)
  unfolding ask_receiver
  asked j =
      given_fields (slot_verdict last_receiver j (Ok tt)) _ (slot_by_lem last_receiver j (Ok tt) tt) (given_used (get_or b.receivers j none) _ λ x. (inl refl, omega arith))

-- ---- on bytes

told_given : (s : List ℕ) (k : Step) → Given k → Told (told s k)
told_given s (refuse why) g = g
told_given s (tell a) g = g
told_given s (change b) g = (inl refl, omega arith)

step_given : (f : Book → Step) (s : List ℕ) → (damaged s ≡ false → Given (f (book_of s))) → Told (on_store f s)
unfolding on_store
step_given f s g = go (damaged s) refl
  where
    go : (t : Bool) → damaged s ≡ t → Told (cond t (Err Damaged, s) (told s (f (book_of s))))
    go true e = (inr (inl refl), omega arith)
    go false e = told_given s (f (book_of s)) (g e)

clear_given : (s : List ℕ) → Told (clear_store s)
unfolding clear_store
clear_given s = go (eqb (length s) store_length)
  where
    go : (t : Bool) → Told (cond t (Ok Done, cleared_bytes) (Err Damaged, s))
    go true = (inl refl, omega arith)
    go false = (inr (inl refl), omega arith)

rows : (c : Call) (s : List ℕ) → Told (perform c s)
rows Clear s = clear_given s
rows (PlaceSource i x) s = step_given (place_source i x) s λ d. source_in (book_of s) (sound_book s d) i x
rows (WithdrawSource i) s = step_given (withdraw_source i) s λ d. source_out (book_of s) (sound_book s d) i
rows (PlaceReceiver j r) s = step_given (place_receiver j r) s λ d. receiver_in (book_of s) (sound_book s d) j r
rows (WithdrawReceiver j) s = step_given (withdraw_receiver j) s λ d. receiver_out (book_of s) (sound_book s d) j
rows (PlaceWall k w) s = step_given (place_wall k w) s λ d. wall_in (book_of s) (sound_book s d) k w
rows (WithdrawWall k) s = step_given (withdraw_wall k) s λ d. wall_out (book_of s) (sound_book s d) k
rows (Ask j) s = step_given (ask_receiver j) s λ d. asked (book_of s) (sound_book s d) j

pub numbers : (c : Call) (s : List ℕ) → BookNumber (number_in (perform c s).0)
numbers c s = (rows c s).0

pub places : (c : Call) (s : List ℕ) → place_in (perform c s).0 < source_count
places c s = (rows c s).1
