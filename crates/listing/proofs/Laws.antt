-- The two digits of a slot or of a refusal's number have its value; no line is longer than the 64 bytes that it is given.
-- Assumes nothing.
use Rattle.std.specs.Prelude.{Some, None}
use Prim.Native.Nat.{ℕ, ◌/◌, ◌^◌, ◌≤◌, ◌<◌}
use mathlib.Core.Path.{◌≡◌, refl}
use native.Mathlib.Omega.{arith}
use lib.ListN.{length, length-append}
use Rattle.answer.specs.declared.Refusal.{Refusal}
use Rattle.answer.specs.declared.Refusal.TheVariants.{Damaged, CutShort, UnknownKind, Leftover, Field, SlowSurface, QuietTruck, Taken, Vacant, TooNear, TooFar, TooLong, TooLoud, TwoWalls}
use Rattle.answer.specs.Table.{number_of}
use Rattle.index.specs.Index.{Index}
use Rattle.text.specs.Text.{decimal, value_after}
use Rattle.text.proofs.Decimal.{length_decimal, length_count}
use Rattle.listing.specs.Listing.{two_digits, level_text, ask_line, refusal_line, end_line}

-- a slot or a number of a refusal is below 100, and its two digits have its value
pub value_two : (n : ℕ) → n < 100 → value_after 10 0 (two_digits n) ≡ n
value_two n h = omega arith

pub number_two : (why : Refusal) → value_after 10 0 (two_digits (number_of why)) ≡ number_of why
number_two Damaged = refl
number_two CutShort = refl
number_two UnknownKind = refl
number_two Leftover = refl
number_two (Field f) = refl
number_two SlowSurface = refl
number_two QuietTruck = refl
number_two Taken = refl
number_two Vacant = refl
number_two (TooNear s) = refl
number_two (TooFar s) = refl
number_two (TooLong s) = refl
number_two (TooLoud s) = refl
number_two (TwoWalls s) = refl

pub length_whole : (t : ℕ) → t < 2 ^ 32 → length (decimal (t / 10)) ≤ 9
length_whole t h = length_decimal 8 (t / 10) (omega arith)

-- an index in 32 bits
abbrev pub Fits : Index → Type 0
Fits None = Unit
Fits (Some t) = t < 2 ^ 32

pub length_level : (x : Index) → Fits x → length (level_text x) ≤ 11
length_level None h = omega arith
length_level (Some t) h = rw length-append (omega (arith, length_whole t h))

-- no line is longer than 64 bytes
pub ask_length : (n slot : ℕ) (den night : Index) → n < 2 ^ 64 → Fits den → Fits night → length (ask_line n slot den night) ≤ 64
unfolding ask_line
ask_length n slot den night h d e = simp length-append (omega (arith, length_count n h, length_level den d, length_level night e))

pub refusal_length : (n : ℕ) (why : Refusal) → n < 2 ^ 64 → length (refusal_line n why) ≤ 64
unfolding refusal_line
refusal_length n why h = simp length-append (omega (arith, length_count n h))

pub end_length : (n : ℕ) → n < 2 ^ 64 → length (end_line n) ≤ 64
unfolding end_line
end_length n h = simp length-append (omega (arith, length_count n h))
