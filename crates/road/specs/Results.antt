-- What is given where it can be, and else why not: of a road and a point three shares or a bar, of fields nothing or a refusal.
use Rattle.std.specs.Prelude.{ℕ, Option, Result, ⊤}
use Rattle.road.specs.declared.Term.{Term}
use Rattle.answer.specs.declared.Refusal.{Refusal}
use Rattle.road.specs.declared.Shares.{Shares}
use Rattle.road.specs.declared.Bar.{Bar}

-- what a metre of road sends out in one period: its level, or none where there is no traffic
abbrev pub Voice : Type 0
Voice = Option Term

-- a share of one period: an energy, or the bar of loudness
abbrev pub Part : Type 0
Part = Result ℕ Bar

-- what a road and a point make
abbrev pub Pair : Type 0
Pair = Result Shares Bar

-- whether fields are allowed
abbrev pub Verdict : Type 0
Verdict = Result ⊤ Refusal
