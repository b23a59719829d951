-- The turns of the loop that writes binary columns from the last to the first, and how long what is written is.
-- Assumes nothing.
use Prim.Native.Nat.{ℕ, ◌-◌, ◌/◌, ◌^◌, ◌≤◌, ◌<◌}
use mathlib.Core.Path.{◌≡◌, refl}
use mathlib.Core.List.{List, ◌++◌}
use native.Mathlib.Omega.{arith}
use lib.ListN.{length, length-append, set, drop}
use Rattle.text.specs.declared.Page.{Page}
use Rattle.text.specs.Page.{put_on}
use Rattle.text.proofs.Decimal.{length_count}
use Rattle.text.proofs.Pages.{Takes, takes}
use Rattle.text.proofs.Writing.{length_by, digits_begun, digit_put, digits_done}
use Rattle.longhand.specs.Sheet.{mark, columns, short, term}

module _ (lead : ℕ) where
  pub length_columns : (w v : ℕ) → length (columns lead w v) ≡ w
  unfolding columns
  length_columns = length_by (columns lead) (λ v. v / 2) (mark lead) (λ w v. refl) (λ v. refl)

  pub columns_begun : (o : List ℕ) (w v : ℕ) → length o ≤ w → columns lead w v ++ drop w o ≡ columns lead w v
  unfolding columns
  columns_begun = digits_begun (columns lead) (λ v. v / 2) (mark lead) (λ w v. refl) (λ v. refl)

  pub column_put : (o g : List ℕ) (left v : ℕ) → 1 ≤ left → left ≤ length o → columns lead left v ++ drop left o ≡ g
      → columns lead (left - 1) (v / 2) ++ drop (left - 1) (set o (left - 1) (mark lead v)) ≡ g
  unfolding columns
  column_put = digit_put (columns lead) (λ v. v / 2) (mark lead) (λ w v. refl) (λ v. refl)

  pub columns_done : (o g : List ℕ) (left v : ℕ) → left ≤ 0 → columns lead left v ++ drop left o ≡ g → o ≡ g
  unfolding columns
  columns_done = digits_done (columns lead) (λ v. v / 2) (mark lead) (λ w v. refl) (λ v. refl)

-- ---- how long what is written is, and the room that is left after it

pub length_short : (w v : ℕ) → 1 ≤ w → length (short w v) ≡ w
unfolding short
length_short w v h = rw length-append (omega (arith, length_columns 32 (w - 1) (v / 2), length_columns 48 1 v))

pub length_term : (sign x : ℕ) → x < 2 ^ 64 → length (term sign x) ≤ 23
unfolding term
length_term sign x h = omega (arith, length_count x h)

pub takes_columns : (lead w v : ℕ) (p q : Page) → q ≡ put_on (columns lead w v) p → Takes w p q
takes_columns lead w v p q e = takes w _ p q (omega (arith, length_columns lead w v)) e

pub takes_short : (w v : ℕ) (p q : Page) → 1 ≤ w → q ≡ put_on (short w v) p → Takes w p q
takes_short w v p q h e = takes w _ p q (omega (arith, length_short w v h)) e

pub takes_term : (sign x : ℕ) (p q : Page) → x < 2 ^ 64 → q ≡ put_on (term sign x) p → Takes 23 p q
takes_term sign x p q h e = takes 23 _ p q (length_term sign x h) e
