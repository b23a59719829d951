-- `weather` takes off what lies beyond ten heights of the ray. Assumes nothing.
use mathlib.Core.Path.{◌≡◌, ap, ◌∙◌}
use mathlib.Core.Bool.{cond}
use Prim.Native.Nat.{ℕ, ◌-◌, ◌*◌, ◌/◌, ◌≤◌, ◌<◌}
use lib.Dec.{leb}
use native.Mathlib.Decide.{dec_le}
use native.Mathlib.Omega.{arith}
use borrow.Author.Tests.{le-leb, lt-leb}
use Rattle.std.proofs.Math.Nat.{zero-div}
use Rattle.road.specs.Reach.{weather_term}
use Rattle.road.proofs.Bounds.{times}
use Rattle.reach.proofs.weather.Goals as goal

-- nothing lies beyond a root that is no longer than the heights
none_beyond : (c near heights : ℕ) → near ≤ heights → c * (near - heights) / near ≡ 0
none_beyond c near heights h = let e : c * (near - heights) ≡ 0 = omega (arith, times c (near - heights) c 0 (omega arith) (omega arith)) in ap (λ (n : ℕ). n / near) e ∙ zero-div near

beyond_is : (c near heights : ℕ) → c * (near - heights) / near ≡ cond (leb near heights) 0 (c * (near - heights) / near)
beyond_is c near heights = go (dec_le near heights)
  where
    go : Dec (near ≤ heights) → c * (near - heights) / near ≡ cond (leb near heights) 0 (c * (near - heights) / near)
    go (yes h) = rw (le-leb near heights h) (none_beyond c near heights h)
    go (no h) = let l : heights < near = omega arith in simp (lt-leb near heights l)

pub returns : goal.returns
unfolding weather_term
returns c =
    ap (λ (n : ℕ). c.args.c * n / c.args.near) c.saturating_sub-beyond.ensures ∙ beyond_is c.args.c c.args.near (10 * c.args.h)
