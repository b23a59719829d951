-- What is put on a page: how it goes with a text that is written into a list, one text after another, and the room that is left.
-- Assumes nothing.
use Prim.Native.Nat.{ℕ, ◌+◌, ◌-◌, ◌^◌, ◌≤◌, ◌<◌}
use mathlib.Core.Path.{◌≡◌, sym, ap, ap₂, ◌∙◌}
use mathlib.Core.List.{List, [], ◌++◌}
use native.Mathlib.Nat.{add-zero}
use native.Mathlib.Omega.{arith}
use lib.ListN.{length, take, drop, length-append}
use Rattle.layout.proofs.Writes.{over_none, over_lent}
use Rattle.text.specs.declared.Page.{Page}
use Rattle.text.specs.Text.{decimal, written}
use Rattle.text.specs.Page.{put_on}
use Rattle.text.proofs.Decimal.{length_count}
use Rattle.text.proofs.Writing.{over_long, over_after}

-- the same bytes as lent, at other values, written up to another place
abbrev pub turned : Page → ℕ → List ℕ → Page
turned p at o = record { out = record { ref_ptr = p.out.ref_ptr; ghost_name = p.out.ghost_name; now = o }; at = at }

-- the bytes that were lent from the place on have come back
pub lent : (p : Page) (t : List ℕ) (e : ℕ) → p.at + length t ≡ e
    → turned p e (take p.at p.out.now ++ (t ++ drop (e - p.at) (drop p.at p.out.now))) ≡ put_on t p
lent p t e h = ap₂ (turned p) (sym h) (over_lent p.at e t p.out.now h)

-- nothing is put on it
pub put_none : (p : Page) → put_on [] p ≡ p
put_none p = ap₂ (turned p) (add-zero p.at) (over_none p.at p.out.now)

module _ (t : List ℕ) (p q : Page) (w : q ≡ put_on t p) where
  pub ends : q.at ≡ p.at + length t
  ends = ap (λ (p : Page). p.at) w

  -- they are still the bytes that were lent
  pub same : p.out.ghost_name ≡ q.out.ghost_name
  same = sym (ap (λ (p : Page). p.out.ghost_name) w)

  -- the text is written at the page's place
  pub as_written : (q.at, q.out.now) ≡ written p.at t p.out.now
  unfolding written
  as_written = ap (λ (p : Page). (p.at, p.out.now)) w

  -- the room that is left
  pub left : length p.out.now + q.at ≤ length q.out.now + (p.at + length t)
  left = omega (arith, ends, over_long p.at t p.out.now, ap (λ (p : Page). length p.out.now) w)

  -- two texts are their joined text
  pub after : (u : List ℕ) (r : Page) → r ≡ put_on u q → r ≡ put_on (t ++ u) p
  after u r v =
      let e : p.at + length t + length u ≡ p.at + length (t ++ u) = rw length-append (omega arith) in
      v ∙ ap (put_on u) w ∙ ap₂ (turned p) e (over_after p.at t u p.out.now)

-- n bytes at most are written from p to q, and so one has no more than n bytes less room than the other
abbrev pub Takes : ℕ → Page → Page → Type 0
Takes n p q = length p.out.now + q.at ≤ length q.out.now + (p.at + n)

pub takes : (n : ℕ) (t : List ℕ) (p q : Page) → length t ≤ n → q ≡ put_on t p → Takes n p q
takes n t p q h w = omega (arith, left t p q w, h)

pub takes_decimal : (x : ℕ) (p q : Page) → x < 2 ^ 64 → q ≡ put_on (decimal x) p → Takes 20 p q
takes_decimal x p q h w = takes 20 (decimal x) p q (length_count x h) w
