-- A write into a list.
use Rattle.std.specs.Prelude.{ℕ, ◌+◌, List, ◌++◌, length, take, drop}

-- s with t written into it at index at
unfoldable pub over : ℕ → List ℕ → List ℕ → List ℕ
over at t s = take at s ++ (t ++ drop (at + length t) s)
