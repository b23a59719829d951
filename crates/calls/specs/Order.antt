-- In which order a call refuses (METHOD 9: the lowest number that applies, 10 to 14 pair by pair, the late 1 after all else).
-- Each line says what is answered whatever holds of the tests behind it; `in_order` of proofs/Answered.antt proves them.
use Rattle.std.specs.Prelude.{ℕ, ◌≡◌, true, false, map, get_or, set, Ok, Err}
use Rattle.std.proofs.Math.Option.{none, some}
use Rattle.answer.specs.declared.Refusal.{Refusal}
use Rattle.answer.specs.declared.Refusal.TheVariants.{Damaged, Vacant}
use Rattle.screen.specs.declared.Wall.{Wall}
use Rattle.road.specs.declared.Source.{Source}
use Rattle.road.specs.declared.Receiver.{Receiver}
use Rattle.road.specs.Results.{Verdict}
use Rattle.road.specs.Reach.{pair_of}
use Rattle.road.specs.Judge.{source_verdict, receiver_verdict, wall_verdict, slot_verdict}
use Rattle.store.specs.declared.Held.{Held}
use Rattle.store.specs.Store.{last_source, last_receiver, last_wall, Book, book}
use Rattle.ledger.specs.Lists.{omap, present, every, first_bar, weigh}
use Rattle.ledger.specs.Changes.{Change, follow, bar_of, exchange, renewing}
use Rattle.calls.specs.Calls.{refuse, change, pair_in, place_source, place_receiver, place_wall, withdraw_source, withdraw_receiver, withdraw_wall, ask_receiver}

-- the verdict on slot and fields
abbrev pub source_judged : ℕ → Source → Verdict
source_judged i s = slot_verdict last_source i (source_verdict s)

abbrev pub receiver_judged : ℕ → Receiver → Verdict
receiver_judged j r = slot_verdict last_receiver j (receiver_verdict r)

abbrev pub wall_judged : ℕ → Wall → Verdict
wall_judged k w = slot_verdict last_wall k (wall_verdict w)

-- a source comes into slot i, and whoever is in it goes
abbrev pub coming : ℕ → Source → Book → Change
coming i s b = exchange (pair_in b) (get_or b.sources i none) (some s)

-- the walls with w in slot k, and what they make of every account
abbrev pub walled : ℕ → Wall → Book → Change
walled k w b = renewing (pair_of (present (set b.walls k (some w)))) (present b.sources)

-- no line asks whether the slot is free: a placing into a used one is answered in the same order
pub record SourceOrder (i : ℕ) (s : Source) (b : Book) : Type 0 where
  -- 5, 6 and 7
  pub fields_first : (why : Refusal) → source_judged i s ≡ Err why → place_source i s b ≡ refuse why
  -- 10 to 14, of the source that comes
  pub then_barred : (why : Refusal) → source_judged i s ≡ Ok tt → first_bar (λ (x : Held). pair_in b s x.who) 0 b.receivers ≡ some why
      → place_source i s b ≡ refuse why
  -- the late 1
  pub then_late : source_judged i s ≡ Ok tt → first_bar (λ (x : Held). pair_in b s x.who) 0 b.receivers ≡ none
      → every (coming i s b).fits (present b.receivers) ≡ false → place_source i s b ≡ refuse Damaged
  -- or done
  pub then_done : source_judged i s ≡ Ok tt → first_bar (λ (x : Held). pair_in b s x.who) 0 b.receivers ≡ none
      → every (coming i s b).fits (present b.receivers) ≡ true
      → place_source i s b ≡ change (book (set b.sources i (some s)) (map (omap (follow (coming i s b))) b.receivers) b.walls)

pub record ReceiverOrder (j : ℕ) (r : Receiver) (b : Book) : Type 0 where
  -- 5
  pub fields_first : (why : Refusal) → receiver_judged j r ≡ Err why → place_receiver j r b ≡ refuse why
  -- 10 to 14
  pub then_barred : (why : Refusal) → receiver_judged j r ≡ Ok tt → first_bar (λ (s : Source). pair_in b s r) 0 b.sources ≡ some why
      → place_receiver j r b ≡ refuse why
  -- or done: it has the shares at its place
  pub then_done : receiver_judged j r ≡ Ok tt → first_bar (λ (s : Source). pair_in b s r) 0 b.sources ≡ none
      → place_receiver j r b ≡ change (book b.sources (set b.receivers j (some (weigh (pair_in b) (present b.sources) r))) b.walls)

pub record WallOrder (k : ℕ) (w : Wall) (b : Book) : Type 0 where
  -- 5
  pub fields_first : (why : Refusal) → wall_judged k w ≡ Err why → place_wall k w b ≡ refuse why
  -- 10 to 14, of every pair among the walls that would stand
  pub then_barred : (why : Refusal) → wall_judged k w ≡ Ok tt → bar_of (walled k w b) b.receivers ≡ some why → place_wall k w b ≡ refuse why
  -- or done
  pub then_done : wall_judged k w ≡ Ok tt → bar_of (walled k w b) b.receivers ≡ none
      → place_wall k w b ≡ change (book b.sources (map (omap (follow (walled k w b))) b.receivers) (set b.walls k (some w)))

-- 9, of a slot that is allowed
pub record VacantOrder (i : ℕ) (b : Book) : Type 0 where
  pub source : slot_verdict last_source i (Ok tt) ≡ Ok tt → get_or b.sources i none ≡ none → withdraw_source i b ≡ refuse Vacant
  pub receiver : slot_verdict last_receiver i (Ok tt) ≡ Ok tt → get_or b.receivers i none ≡ none → withdraw_receiver i b ≡ refuse Vacant
  pub wall : slot_verdict last_wall i (Ok tt) ≡ Ok tt → get_or b.walls i none ≡ none → withdraw_wall i b ≡ refuse Vacant
  pub ask : slot_verdict last_receiver i (Ok tt) ≡ Ok tt → get_or b.receivers i none ≡ none → ask_receiver i b ≡ refuse Vacant

pub record InOrder : Type 0 where
  pub source : (i : ℕ) (s : Source) (b : Book) → SourceOrder i s b
  pub receiver : (j : ℕ) (r : Receiver) (b : Book) → ReceiverOrder j r b
  pub wall : (k : ℕ) (w : Wall) (b : Book) → WallOrder k w b
  pub vacant : (i : ℕ) (b : Book) → VacantOrder i b
