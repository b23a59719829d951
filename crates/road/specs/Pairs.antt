-- What a ledger and a book know of a road and a point: they are heard and bring three shares, or are barred and bring nothing.
-- `pair_of` of Reach.antt is such a pairing; no definition above this crate looks inside it.
use Rattle.std.specs.Prelude.{ℕ, ◌≤◌, Bool, true, false, [], ◌∷◌, get_or, Ok, Err}
use Rattle.road.specs.declared.Source.{Source}
use Rattle.road.specs.declared.Receiver.{Receiver}
use Rattle.road.specs.declared.Shares.{Shares}
use Rattle.road.specs.Results.{Pair}

-- what a road and a point make
abbrev pub Pairing : Type 0
Pairing = Source → Receiver → Pair

abbrev pub is_heard : Pair → Bool
is_heard (Ok h) = true
is_heard (Err b) = false

abbrev pub no_shares : Shares
no_shares = record { day = 0; evening = 0; night = 0 }

abbrev pub brought : Pair → Shares
brought (Ok h) = h
brought (Err b) = no_shares

-- the share in the period i: 0 day, 1 evening, 2 night
abbrev pub share_in : Pair → ℕ → ℕ
share_in p i = get_or ((brought p).day ∷ (brought p).evening ∷ (brought p).night ∷ []) i 0

-- 90.00 dB: what is louder is barred
abbrev pub most_share : ℕ
most_share = 1000000000000000

-- the law of a pairing: no share is above it
abbrev pub Mild : Pair → Type 0
Mild p = (i : ℕ) → share_in p i ≤ most_share

abbrev pub Bounded : Pairing → Type 0
Bounded pair = (s : Source) (r : Receiver) → Mild (pair s r)
