-- A term of the sum: a level in hundredths of a dB as what it adds and what it takes off, so that all numbers are natural.
-- Terms are added side by side; a level is the difference of the two sides.
use Rattle.std.specs.Prelude.{ℕ, ◌+◌, get_or}
use Rattle.road.specs.declared.Term.{Term}
use Rattle.road.specs.declared.Traffic.{Traffic}
use Rattle.road.specs.declared.Source.{Source}

infixl 40 ◌⊕◌
abbrev pub term : ℕ → ℕ → Term
term u d = record { up = u; down = d }

abbrev pub adds : ℕ → Term
adds n = term n 0

abbrev pub takes : ℕ → Term
takes n = term 0 n

abbrev pub ◌⊕◌ : Term → Term → Term
s ⊕ t = term (s.up + t.up) (s.down + t.down)

-- the traffic of a source in the period i: 0 day, 1 evening, 2 night
abbrev pub none : Traffic
none = record { m = 0; p = 0 }

abbrev pub period : Source → ℕ → Traffic
period s i = get_or s.traffic i none
