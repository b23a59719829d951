-- A kind and its number: each gives the other, a kind has a row in the table, and a number that names no kind has none.
-- Assumes nothing.
use Rattle.std.specs.Prelude.{ℕ, zero, suc, ◌+◌, ◌≡◌, ◌<◌, refl, Bool, true, false, cond, eqb, List, [], ◌∷◌, Some, None, Option}
use mathlib.Core.Path.{sym, ap, ◌∙◌}
use denote.Enum.Declared.{tag_of}
use lib.Dec.{lit<}
use borrow.Author.Tests.{eqb-true}
use Rattle.std.proofs.lemmas.Option.{none-some, same_Some}
use Rattle.layout.specs.Layout.{size}
use Rattle.request.specs.Kinds.{unlisted, kind_at, layout_of}
use Rattle.kinds.specs.contracts.Kind.{the_type}
use Rattle.kinds.specs.declared.Kind.{Kind}
use Rattle.kinds.specs.declared.Kind.TheVariants.{PlaceReceiver, WithdrawReceiver, PlaceUncut, WithdrawSource, Ask, PlaceDaily, PlaceBetween, PlaceWall, WithdrawWall}
use Rattle.kinds.specs.Kind.{number_of, every_kind, named_among, kind_named}

-- a kind is named by its number
pub number_names : (k : Kind) → kind_named (number_of k) ≡ Some k
unfolding kind_named
number_names PlaceReceiver = refl
number_names WithdrawReceiver = refl
number_names PlaceUncut = refl
number_names WithdrawSource = refl
number_names Ask = refl
number_names PlaceDaily = refl
number_names PlaceBetween = refl
number_names PlaceWall = refl
number_names WithdrawWall = refl

-- so two kinds have two numbers
pub same_number : (a b : Kind) → number_of a ≡ number_of b → a ≡ b
same_number a b e = same_Some a b (sym (number_names a) ∙ ap kind_named e ∙ number_names b)

-- and by no other number
among_one : (x k : Kind) (n : ℕ) (o : Option Kind) (b : Bool) → eqb (number_of x) n ≡ b → (o ≡ Some k → number_of k ≡ n)
    → cond b (Some x) o ≡ Some k → number_of k ≡ n
among_one x k n o true t rest e = ap number_of (sym (same_Some x k e)) ∙ eqb-true (number_of x) n t
among_one x k n o false t rest e = rest e

among : (ks : List Kind) (n : ℕ) (k : Kind) → named_among ks n ≡ Some k → number_of k ≡ n
among [] n k e = absurd (none-some k e)
among (x ∷ ks) n k e = among_one x k n (named_among ks n) (eqb (number_of x) n) refl (among ks n k) e

pub named_number : (n : ℕ) (k : Kind) → kind_named n ≡ Some k → number_of k ≡ n
unfolding kind_named
named_number n k e = among every_kind n k e

-- the code's own numbers of the variants are these
pub number_by_tag : (k : Kind) → tag_of the_type k + 1 ≡ number_of k
number_by_tag PlaceReceiver = refl
number_by_tag WithdrawReceiver = refl
number_by_tag PlaceUncut = refl
number_by_tag WithdrawSource = refl
number_by_tag Ask = refl
number_by_tag PlaceDaily = refl
number_by_tag PlaceBetween = refl
number_by_tag PlaceWall = refl
number_by_tag WithdrawWall = refl

-- each kind is listed
pub kind_listed : (k : Kind) → 0 < size (layout_of (number_of k))
unfolding kind_at
kind_listed PlaceReceiver = lit< tt
kind_listed WithdrawReceiver = lit< tt
kind_listed PlaceUncut = lit< tt
kind_listed WithdrawSource = lit< tt
kind_listed Ask = lit< tt
kind_listed PlaceDaily = lit< tt
kind_listed PlaceBetween = lit< tt
kind_listed PlaceWall = lit< tt
kind_listed WithdrawWall = lit< tt

-- a number that names no kind is not listed
pub unnamed_unlisted : (n : ℕ) → kind_named n ≡ None → kind_at n ≡ unlisted
unfolding kind_named kind_at
unnamed_unlisted zero e = refl
unnamed_unlisted (suc zero) e = absurd (none-some _ (sym e))
unnamed_unlisted (suc (suc zero)) e = absurd (none-some _ (sym e))
unnamed_unlisted (suc (suc (suc zero))) e = absurd (none-some _ (sym e))
unnamed_unlisted (suc (suc (suc (suc zero)))) e = absurd (none-some _ (sym e))
unnamed_unlisted (suc (suc (suc (suc (suc zero))))) e = absurd (none-some _ (sym e))
unnamed_unlisted (suc (suc (suc (suc (suc (suc zero)))))) e = absurd (none-some _ (sym e))
unnamed_unlisted (suc (suc (suc (suc (suc (suc (suc zero))))))) e = absurd (none-some _ (sym e))
unnamed_unlisted (suc (suc (suc (suc (suc (suc (suc (suc zero)))))))) e = absurd (none-some _ (sym e))
unnamed_unlisted (suc (suc (suc (suc (suc (suc (suc (suc (suc zero))))))))) e = absurd (none-some _ (sym e))
unnamed_unlisted (suc (suc (suc (suc (suc (suc (suc (suc (suc (suc n)))))))))) e = refl
