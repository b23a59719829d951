-- What each call of the book answers and leaves, in terms of the book: three lists of slots (METHOD 1 and 9).
-- A call on bytes reads them as a book, asks one of these definitions, and writes the book that it gives.
use Rattle.std.specs.Prelude.{ℕ, Bool, true, false, cond, List, map, length, get_or, set, eqb, Ok, Err, Result}
use Rattle.std.proofs.Math.Option.{Option, none, some}
use Rattle.answer.specs.declared.Refusal.{Refusal}
use Rattle.answer.specs.Table.{number_by, place_by}
use Rattle.answer.specs.declared.Refusal.TheVariants.{Damaged, Vacant}
use Rattle.screen.specs.declared.Wall.{Wall}
use Rattle.road.specs.declared.Source.{Source}
use Rattle.road.specs.declared.Receiver.{Receiver}
use Rattle.road.specs.Results.{Verdict}
use Rattle.road.specs.Reach.{pair_of}
use Rattle.road.specs.Pairs.{Pairing}
use Rattle.road.specs.Judge.{source_verdict, receiver_verdict, wall_verdict, slot_verdict}
use Rattle.index.specs.Index.{lden_of, lnight_of}
use Rattle.store.specs.declared.Held.{Held}
use Rattle.store.specs.Store.{last_source, last_receiver, last_wall, Book, book, damaged, book_of, book_bytes, store_length, cleared_bytes}
use Rattle.ledger.specs.Lists.{omap, present, every, first_bar, weigh}
use Rattle.ledger.specs.Changes.{Change, follow, bar_of, exchange, renewing}
use Rattle.calls.specs.declared.Reply.{Reply}
use Rattle.calls.specs.declared.Reply.TheVariants.{Done, Levels}

-- ---- slots: lists of them, the first bar and an account worked out afresh are in the ledger's specs/Lists.antt, changes in its Changes.antt

module _ {A : Type 0} where
  abbrev pub used : Option A → Bool
  used none = false
  used (some a) = true

-- ---- answers

-- what a call answers: done or the two indices, or a refusal
abbrev pub Answer : Type 0
Answer = Result Reply Refusal

-- the refusal in an answer, if it is one; number and place by it
abbrev pub refusal_in : Answer → Option Refusal
refusal_in (Ok Done) = none
refusal_in (Ok (Levels den night)) = none
refusal_in (Err why) = some why

abbrev pub number_in : Answer → ℕ
number_in a = number_by (refusal_in a)

abbrev pub place_in : Answer → ℕ
place_in a = place_by (refusal_in a)

-- ---- what a call comes to: refused, told without a change, or another book

pub data Step : Type 0 where
  refuse : Refusal → Step
  tell : Answer → Step
  change : Book → Step

abbrev pub allow : Verdict → Step → Step
allow (Ok tt) k = k
allow (Err r) k = refuse r

module _ {A : Type 0} where
  -- refusal 9: withdrawing or asking an unused slot
  abbrev pub from_used : Option A → (A → Step) → Step
  from_used none k = refuse Vacant
  from_used (some a) k = k a

-- refusals 10 to 14, by the first bar
abbrev pub unless_barred : Option Refusal → Step → Step
unless_barred none k = k
unless_barred (some r) k = refuse r

-- the late 1
abbrev pub unless_late : Bool → Step → Step
unless_late true k = k
unless_late false k = refuse Damaged

-- ---- the calls: slot and fields first (5, 6, 7), then as each says

-- a pair among the walls that stand
abbrev pub pair_in : Book → Pairing
pair_in b = pair_of (present b.walls)

-- a change that all receivers follow: 10 to 14, then the late 1, then the book with the receivers as they are after it
abbrev pub followed : Change → (List (Option Held) → Book) → Book → Step
followed c after b =
    unless_barred (bar_of c b.receivers)
    (unless_late (every c.fits (present b.receivers))
    (change (after (map (omap (follow c)) b.receivers))))

-- ---- a slot that is to hold o: who is in it goes, and who is in o comes, each there or not. Placing: o is somebody. Withdrawing: o is nobody,
-- and the slot has to be used

-- source slot i
abbrev pub change_source : ℕ → Option Source → Book → Step
change_source i o b = followed (exchange (pair_in b) (get_or b.sources i none) o) (λ rs. book (set b.sources i o) rs b.walls) b

unfoldable pub place_source : ℕ → Source → Book → Step
place_source i s b = allow (slot_verdict last_source i (source_verdict s)) (change_source i (some s) b)

abbrev pub leave_source : ℕ → Book → Step
leave_source i b = from_used (get_or b.sources i none) (λ s. change_source i none b)

unfoldable pub withdraw_source : ℕ → Book → Step
withdraw_source i b = allow (slot_verdict last_source i (Ok tt)) (leave_source i b)

-- receiver slot j: the account of whoever comes is worked out afresh
abbrev pub bar_here : Book → Option Receiver → Option Refusal
bar_here b none = none
bar_here b (some r) = first_bar (λ (s : Source). pair_in b s r) 0 b.sources

abbrev pub change_receiver : ℕ → Option Receiver → Book → Step
change_receiver j o b =
    unless_barred (bar_here b o)
    (change (book b.sources (set b.receivers j (omap (weigh (pair_in b) (present b.sources)) o)) b.walls))

unfoldable pub place_receiver : ℕ → Receiver → Book → Step
place_receiver j r b = allow (slot_verdict last_receiver j (receiver_verdict r)) (change_receiver j (some r) b)

abbrev pub leave_receiver : ℕ → Book → Step
leave_receiver j b = from_used (get_or b.receivers j none) (λ x. change_receiver j none b)

unfoldable pub withdraw_receiver : ℕ → Book → Step
withdraw_receiver j b = allow (slot_verdict last_receiver j (Ok tt)) (leave_receiver j b)

-- wall slot k: every sum is worked out afresh among the walls that then stand
abbrev pub change_wall : ℕ → Option Wall → Book → Step
change_wall k o b =
    followed (renewing (pair_of (present (set b.walls k o))) (present b.sources))
    (λ rs. book b.sources rs (set b.walls k o)) b

unfoldable pub place_wall : ℕ → Wall → Book → Step
place_wall k w b = allow (slot_verdict last_wall k (wall_verdict w)) (change_wall k (some w) b)

abbrev pub leave_wall : ℕ → Book → Step
leave_wall k b = from_used (get_or b.walls k none) (λ w. change_wall k none b)

unfoldable pub withdraw_wall : ℕ → Book → Step
withdraw_wall k b = allow (slot_verdict last_wall k (Ok tt)) (leave_wall k b)

-- ---- an ask changes nothing

abbrev pub indices_at : ℕ → Book → Step
indices_at j b =
    from_used (get_or b.receivers j none) (λ x.
    tell (Ok (Levels (lden_of x.sums.day x.sums.evening x.sums.night) (lnight_of x.sums.night))))

unfoldable pub ask_receiver : ℕ → Book → Step
ask_receiver j b = allow (slot_verdict last_receiver j (Ok tt)) (indices_at j b)

-- ---- on bytes

-- what is answered, and the store at exit
abbrev pub told : List ℕ → Step → Answer × List ℕ
told s (refuse r) = (Err r, s)
told s (tell a) = (a, s)
told s (change b) = (Ok Done, book_bytes b)

-- damage is looked for before all else
unfoldable pub on_store : (Book → Step) → List ℕ → Answer × List ℕ
on_store f s = cond (damaged s) (Err Damaged, s) (told s (f (book_of s)))

-- clear refuses only a store of the wrong length
unfoldable pub clear_store : List ℕ → Answer × List ℕ
clear_store s = cond (eqb (length s) store_length) (Ok Done, cleared_bytes) (Err Damaged, s)
