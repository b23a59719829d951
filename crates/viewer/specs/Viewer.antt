-- The book as a program in C calls it (METHOD 10): what each call returns, and the store or the output as it then is, for any bytes lent.
-- Book and reader say what is refused; here that comes to one number, and 2 is last of all.
use Rattle.std.specs.Prelude.{ℕ, suc, ◌+◌, ◌*◌, ◌/◌, ◌%◌, ◌<◌, ◌≡◌, ◌⊎◌, Bool, true, false, not, List, [], ◌∷◌, ◌++◌, length, get_or, eqb, ltb, Ok, Err, Some, None}
use Rattle.std.proofs.Math.Option.{Option, none, some}
use Rattle.answer.specs.declared.Refusal.{Refusal}
use Rattle.answer.specs.declared.Refusal.TheVariants.{CutShort}
use Rattle.answer.specs.Table.{number_by, place_by}
use Rattle.index.specs.Index.{Index}
use Rattle.calls.specs.Calls.{Answer}
use Rattle.calls.specs.declared.Reply.TheVariants as answer
use Rattle.calls.specs.Calls.{refusal_in, on_store, clear_store, ask_receiver}
use Rattle.request.specs.Record.{extent_of}
use Rattle.service.specs.Service.{outcome_refusal, done_to}

-- ---- results

-- number times 1024 plus place; 0 where nothing is refused
abbrev pub result_of : Option Refusal → ℕ
result_of why = number_by why * 1024 + place_by why

-- 2 is last of all: where something is too long or too short, it is told if nothing else is refused
abbrev pub lastly : Bool → Option Refusal → Option Refusal
lastly t (some why) = some why
lastly true none = some CutShort
lastly false none = none

-- the result of a call, and what it leaves of what was there: all of it, if it is refused
module _ {A : Type 0} where
  abbrev pub unless_refused : Option Refusal → A → A → ℕ × A
  unless_refused none before after = (result_of none, after)
  unless_refused (some why) before after = (result_of (some why), before)

-- ---- clear: the result, and the store

unfoldable pub cleared : List ℕ → ℕ × List ℕ
cleared store = unless_refused (refusal_in (clear_store store).0) store (clear_store store).1

-- ---- apply: the result, and the store

-- whether bytes follow the record at the front
abbrev pub goes_on : List ℕ → Bool
goes_on bytes = ltb (extent_of bytes) (length bytes)

-- what is refused of the bytes as one record
abbrev pub barred : List ℕ → List ℕ → Option Refusal
barred bytes store = lastly (goes_on bytes) (outcome_refusal (done_to bytes store).0.outcome)

unfoldable pub applied : List ℕ → List ℕ → ℕ × List ℕ
applied bytes store = unless_refused (barred bytes store) store (done_to bytes store).1

-- ---- ask: the result, and the output

-- two bytes, the low one first
abbrev pub low_first : ℕ → List ℕ
low_first n = n % 256 ∷ n / 256 % 256 ∷ []

-- an index as a number: in tenths of a dB, or 65535 for quiet
abbrev pub word : Index → ℕ
word None = 65535
word (Some n) = n

-- L_DEN, then L_Night; no ask is answered without them
abbrev pub indices_in : Answer → List ℕ
indices_in (Ok (answer.Levels den night)) = low_first (word den) ++ low_first (word night)
indices_in (Ok answer.Done) = []
indices_in (Err why) = []

-- what is refused of an ask: what the book refuses, and then an output that has not four bytes
abbrev pub unasked : List ℕ → Answer → Option Refusal
unasked out a = lastly (not (eqb (length out) 4)) (refusal_in a)

-- an answer of the book, told in the output
abbrev pub tell_in : List ℕ → Answer → ℕ × List ℕ
tell_in out a = unless_refused (unasked out a) out (indices_in a)

abbrev pub answered : ℕ → List ℕ → Answer
answered slot store = (on_store (ask_receiver slot) store).0

unfoldable pub asked : ℕ → List ℕ → List ℕ → ℕ × List ℕ
asked slot store out = tell_in out (answered slot store)

-- ---- what a caller makes of it

-- the number and the place out of a result
abbrev pub number_from : ℕ → ℕ
number_from result = result / 1024

abbrev pub place_from : ℕ → ℕ
place_from result = result % 1024

-- two bytes as a number
abbrev pub word_at : ℕ → List ℕ → ℕ
word_at i out = get_or out i 0 + 256 * get_or out (suc i) 0

-- number and place out of a result are those of the refusal
abbrev pub TellsApart : ℕ → Option Refusal → Type 0
TellsApart result why = (number_from result ≡ number_by why) × (place_from result ≡ place_by why)

-- two indices are told: each by the number at its place, and a level by another number than quiet
pub record TellsLevels (out : List ℕ) (den night : Index) : Type 0 where
  pub first : word_at 0 out ≡ word den
  pub second : word_at 2 out ≡ word night
  pub not_quiet : (n : ℕ) → (den ≡ Some n) ⊎ (night ≡ Some n) → n < word None

-- for any bytes at all
pub record ReadBack : Type 0 where
  pub of_clear : (store : List ℕ) → TellsApart (cleared store).0 (refusal_in (clear_store store).0)
  pub of_apply : (bytes store : List ℕ) → TellsApart (applied bytes store).0 (barred bytes store)
  pub of_ask : (slot : ℕ) (store out : List ℕ) → TellsApart (asked slot store out).0 (unasked out (answered slot store))
  pub levels : (slot : ℕ) (store out : List ℕ) (den night : Index) → length out ≡ 4 → answered slot store ≡ Ok (answer.Levels den night)
      → TellsLevels (asked slot store out).1 den night
