-- What only an inner function of this crate promises: a line moved to the right.
-- A reader of the promises can pass over this file.
use Rattle.std.specs.Prelude.{ℕ, ◌/◌}
use Rattle.root.specs.declared.Line.{Line}
use Rattle.root.specs.Root.{line}

-- a line that stands at a place, without what stands to the right of it
abbrev pub moved_right : ℕ → Line → Line
moved_right place l = line (l.left / place) (l.root / place)
