-- `put_tenths` writes a space, the whole part, a point and the tenth.
-- Assumes nothing.
use Rattle.std.specs.Prelude.{Some}
use Prim.Native.Nat.{ℕ, ◌/◌, ◌^◌, ◌<◌}
use mathlib.Core.Path.{◌≡◌, ap, ◌∙◌}
use mathlib.Core.List.{List, [], ◌∷◌, append_assoc}
use native.Mathlib.Omega.{arith}
use Rattle.text.specs.declared.Page.{Page}
use Rattle.text.specs.Text.{digit, decimal, last_digits}
use Rattle.text.specs.Page.{put_on}
use Rattle.text.proofs.Decimal.{length_last_digits}
use Rattle.text.proofs.Pages.{after, ends, left, Takes, takes}
use Rattle.listing.specs.Listing.{level_text}
use Rattle.listing.proofs.Laws.{length_whole}
use Rattle.listing.proofs.put_tenths.Goals as goal

-- the whole part, of t as it was widened
whole : (t u : ℕ) (p q : Page) → t < 2 ^ 32 → u ≡ t → q ≡ put_on (decimal (u / 10)) p → Takes 9 p q
whole t u p q h e w = takes 9 (decimal (u / 10)) p q (length_whole u (omega (arith, e, h))) w

pub decimal-requires : goal.decimal-requires
decimal-requires c = omega (arith, c.requires, left _ _ _ c.text.ensures)

pub text-requires-2 : goal.text-requires-2
text-requires-2 c =
    omega (arith, c.requires, left _ _ _ c.text.ensures, whole _ _ _ _ c.ranges.tenths.fits c.from-t.ensures c.decimal.ensures)

pub digits-requires : goal.digits-requires
digits-requires c =
    omega (arith, c.requires, left _ _ _ c.text.ensures, whole _ _ _ _ c.ranges.tenths.fits c.from-t.ensures c.decimal.ensures, left _ _ _ c.text-2.ensures)

pub returns-clause-page_after : goal.returns-clause-page_after
unfolding last_digits
returns-clause-page_after c =
    let all = after _ _ _ (after _ _ _ (after _ _ _ c.text.ensures _ _ c.decimal.ensures) _ _ c.text-2.ensures) _ _ c.digits.ensures in
    all ∙ ap (λ (l : List ℕ). put_on (32 ∷ l) c.args.page.now) (append_assoc (decimal (c.from-t.result / 10)) (46 ∷ []) (digit c.from-t.result ∷ []))
    ∙ ap (λ (t : ℕ). put_on (32 ∷ level_text (Some t)) c.args.page.now) c.from-t.ensures

pub returns-clause-upper_bound : goal.returns-clause-upper_bound
returns-clause-upper_bound c =
    let u = c.from-t.result in
    omega (arith, ends _ _ _ c.text.ensures, ends _ _ _ c.decimal.ensures, ends _ _ _ c.text-2.ensures, ends _ _ _ c.digits.ensures, length_whole u (omega (arith, c.from-t.ensures, c.ranges.tenths.fits)), length_last_digits 1 u)
