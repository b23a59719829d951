-- What a change of one slot is to the receivers: a source goes and another comes, or the walls are others.
-- Another change is another definition here; the rounds and the book's proofs are for any of them.
use Rattle.std.specs.Prelude.{Bool, true, ◌&&◌, List, [], ◌∷◌, Ok, Err}
use Rattle.std.proofs.Math.Option.{Option, none, some}
use Rattle.answer.specs.declared.Refusal.{Refusal}
use Rattle.road.specs.declared.Source.{Source}
use Rattle.road.specs.declared.Receiver.{Receiver}
use Rattle.road.specs.declared.Shares.{Shares}
use Rattle.road.specs.Results.{Pair}
use Rattle.road.specs.Pairs.{Pairing, is_heard, no_shares, brought}
use Rattle.account.specs.declared.Account.{Account}
use Rattle.store.specs.declared.Held.{Held}
use Rattle.account.specs.Account.{plus_of, minus_of, covers, room}
use Rattle.ledger.specs.Lists.{first_bar, weigh}

pub record Change : Type 0 where
  -- the pair that may bar it
  pub tried : Receiver → Pair
  -- whether a receiver's sums can follow it: the late 1, where they cannot
  pub fits : Held → Bool
  -- its sums after it
  pub sums : Held → Account

-- a receiver after a change
abbrev pub follow : Change → Held → Held
follow c x = record { who = x.who; sums = c.sums x }

-- the first receiver that bars it
abbrev pub bar_of : Change → List (Option Held) → Option Refusal
bar_of c l = first_bar (λ (x : Held). c.tried x.who) 0 l

-- the pair of a source that is there or not: nobody is heard everywhere, and brings nothing
abbrev pub pair_by : Pairing → Option Source → Receiver → Pair
pair_by pair none r = Ok no_shares
pair_by pair (some s) r = pair s r

-- an account that the shares `less` leave and `more` enter
abbrev pub exchanged : Shares → Shares → Account → Account
exchanged less more a = plus_of (minus_of a less) more

-- it can be so: no share that leaves is above its sum, and then there is room for those that enter
abbrev pub exchanges : Shares → Shares → Account → Bool
exchanges less more a = covers a less && room (minus_of a less) more

-- in the slot of the source that goes there is the one that comes, each of them there or not.
-- The one that comes may be barred; the one that goes has to be heard, or its shares are not in the sums
abbrev pub exchange : Pairing → Option Source → Option Source → Change
exchange pair goes comes = record {
  tried = pair_by pair comes;
  fits = λ x. is_heard (pair_by pair goes x.who) && exchanges (brought (pair_by pair goes x.who)) (brought (pair_by pair comes x.who)) x.sums;
  sums = λ x. exchanged (brought (pair_by pair goes x.who)) (brought (pair_by pair comes x.who)) x.sums;
}

-- what the sources make of a point: the bar of the first that is barred there
abbrev pub onward : Pair → Pair → Pair
onward (Ok h) q = q
onward (Err b) q = Err b

abbrev pub together : Pairing → List Source → Receiver → Pair
together pair [] r = Ok no_shares
together pair (s ∷ ss) r = onward (pair s r) (together pair ss r)

-- the walls are others: every sum is worked out afresh, by the pairing among them
abbrev pub renewing : Pairing → List Source → Change
renewing pair ss = record {
  tried = λ r. together pair ss r;
  fits = λ x. true;
  sums = λ x. (weigh pair ss x.who).sums;
}
