-- Accounts worked out afresh, for any pairing: what an exchange makes of one, and that order does not matter.
-- Assumes nothing.
use Rattle.std.specs.Prelude.{Ok}
use mathlib.Core.Path.{◌≡◌, refl}
use mathlib.Core.Bool.{true}
use mathlib.Core.Option.{Option, none, some}
use mathlib.Core.List.{List, ◌∷◌, Permᴰ}
use Prim.Native.Nat.{ℕ, zero, suc, ◌+◌, ◌-◌}
use native.Mathlib.Omega.{arith}
use lib.Dec.{leb}
use borrow.Author.Tests.{le-leb}
use Rattle.road.specs.declared.Source.{Source}
use Rattle.road.specs.declared.Receiver.{Receiver}
use Rattle.road.specs.Pairs.{Pairing, no_shares, brought, share_in}
use Rattle.account.specs.Account.{covers}
use Rattle.ledger.specs.Lists.{present, sum_of, weigh}
use Rattle.ledger.specs.Changes.{follow, pair_by, exchange}
use Rattle.calls.proofs.Sums.{and_both}
use Rattle.history.proofs.Slots.{perm_sum}

-- nobody brings nothing
no_share : (k : ℕ) → share_in (Ok no_shares) k ≡ 0
no_share zero = refl
no_share (suc zero) = refl
no_share (suc (suc zero)) = refl
no_share (suc (suc (suc k))) = refl

module _ (pair : Pairing) where
  module _ (r : Receiver) (l : List (Option Source)) where
    -- the sum of a period with whom a slot holds
    abbrev sum : Option Source → ℕ → ℕ
    sum o k = sum_of (λ s. share_in (pair s r) k) (present (o ∷ l))

    sum_is : (o : Option Source) (k : ℕ) → sum o k ≡ share_in (pair_by pair o r) k + sum none k
    sum_is none k = omega (arith, no_share k)
    sum_is (some s) k = refl

    module _ (goes comes : Option Source) where
      sum_exchanged : (k : ℕ) → sum goes k - share_in (pair_by pair goes r) k + share_in (pair_by pair comes r) k ≡ sum comes k
      sum_exchanged k = omega (arith, sum_is goes k, sum_is comes k)

      pub exchange_is : follow (exchange pair goes comes) (weigh pair (present (goes ∷ l)) r) ≡ weigh pair (present (comes ∷ l)) r
      exchange_is = λ i. record { who = r; sums = record { day = sum_exchanged 0 i; evening = sum_exchanged 1 i; night = sum_exchanged 2 i } }

    pub covers_is : (goes : Option Source) → covers (weigh pair (present (goes ∷ l)) r).sums (brought (pair_by pair goes r)) ≡ true
    covers_is goes = and_both (and_both (below 0) (below 1)) (below 2)
      where
        below : (k : ℕ) → leb (share_in (pair_by pair goes r) k) (sum goes k) ≡ true
        below k = le-leb (share_in (pair_by pair goes r) k) (sum goes k) (omega (arith, sum_is goes k))

  pub weigh_perm : {l m : List Source} → Permᴰ l m → (r : Receiver) → weigh pair l r ≡ weigh pair m r
  weigh_perm π r = λ i. record {
    who = r;
    sums = record {
      day = perm_sum (λ s. share_in (pair s r) 0) π i;
      evening = perm_sum (λ s. share_in (pair s r) 1) π i;
      night = perm_sum (λ s. share_in (pair s r) 2) π i;
    };
  }
