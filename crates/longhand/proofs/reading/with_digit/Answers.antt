-- `with_digit` adds a digit behind the number where all of it is below 2^64.
use Rattle.std.proofs.Common.{inl, inr}
use Prim.Native.Nat.{ℕ, ◌+◌, ◌-◌, ◌*◌, ◌^◌, ◌≤◌, ◌<◌}
use mathlib.Core.Path.{◌≡◌}
use native.Mathlib.Omega.{arith}
use borrow.Author.Tests.{lt-ltb, le-ltb}
use Rattle.longhand.specs.declared.reading.Reading.TheVariants.{Number, Wrong}
use Rattle.longhand.specs.Reading.{with_digit}
use Rattle.longhand.proofs.reading.with_digit.Goals as goal

-- no digit
under : (q b : ℕ) → b < 48 → Wrong ≡ with_digit q b
unfolding with_digit
under q b h = rw (lt-ltb b 48 h)

beyond : (q b : ℕ) → 48 ≤ b → 57 < b → Wrong ≡ with_digit q b
unfolding with_digit
beyond q b h k = rw (le-ltb b 48 h, lt-ltb 57 b k)

-- a digit, by which the number becomes too large, or does not
module _ (q b : ℕ) (h : 48 ≤ b) (k : b ≤ 57) where
  too_large : 2 ^ 64 ≤ q * 10 + (b - 48) → Wrong ≡ with_digit q b
  unfolding with_digit
  too_large l = rw (le-ltb b 48 h, le-ltb 57 b k, le-ltb (q * 10 + (b - 48)) (2 ^ 64) l)

  longer : q * 10 + (b - 48) < 2 ^ 64 → Number (q * 10 + (b - 48)) ≡ with_digit q b
  unfolding with_digit
  longer l = rw (le-ltb b 48 h, le-ltb 57 b k, lt-ltb (q * 10 + (b - 48)) (2 ^ 64) l)

pub returns-then-not-is_ascii_digit : goal.returns-then-not-is_ascii_digit
returns-then-not-is_ascii_digit c =
    elim c.if-not-is_ascii_digit.ensures.cases [ inl h ↦ under _ _ h | inr h ↦ beyond _ _ (omega arith) h ]

pub returns-in_default : goal.returns-in_default
returns-in_default c =
    let d = c.if-not-is_ascii_digit.ensures.cases in
    let l : 2 ^ 64 ≤ c.args.q * 10 = omega (arith, c.in_default.ensures) in
    too_large _ _ d.0 d.1 (omega (arith, l))

pub returns-in_default-checked_add : goal.returns-in_default-checked_add
returns-in_default-checked_add c =
    let d = c.if-not-is_ascii_digit.ensures.cases in
    let l : 2 ^ 64 ≤ c.in-Some.tens + c.from-digit.result = omega (arith, c.in_default-checked_add.ensures) in
    too_large _ _ d.0 d.1 (omega (arith, l, c.in-Some.ensures, c.from-digit.ensures))

pub returns : goal.returns
returns c =
    let d = c.if-not-is_ascii_digit.ensures.cases in
    let e : c.in-Some-checked_add.more ≡ c.args.q * 10 + (c.args.byte - 48) =
    omega (arith, c.in-Some-checked_add.ensures, c.in-Some.ensures, c.from-digit.ensures) in
    rw e (longer _ _ d.0 d.1 (omega (arith, e, c.in-Some-checked_add.ensures, c.in-Some.ensures, c.from-digit.ensures)))
