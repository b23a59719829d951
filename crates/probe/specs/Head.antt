-- The head of an answer, ten bytes: tag (0 done, 1 levels, 2 refused), number, place, L_DEN, L_Night, extent.
-- The last four have two bytes each, most significant first; 65535 stands for quiet, and for what two bytes do not hold.
use Rattle.std.specs.Prelude.{ℕ, ◌/◌, ◌%◌, min, List, [], ◌∷◌, Ok, Err, Some, None}
use Rattle.index.specs.Index.{Index}
use Rattle.request.specs.Record.{Written}
use Rattle.request.specs.Record.{number_written, place_written}
use Rattle.service.specs.Service.{Outcome}
use Rattle.service.specs.declared.Report.TheVariants.{Done, Levels}
use Rattle.service.specs.Service.{outcome_number, outcome_place}

abbrev pub brief : ℕ → ℕ
brief n = min n 65535

abbrev pub tenths : Index → ℕ
tenths None = 65535
tenths (Some n) = brief n

abbrev pub line : ℕ → ℕ → ℕ → ℕ → ℕ → ℕ → List ℕ
line tag number place den night extent =
    tag ∷ number ∷ place / 256 ∷ place % 256 ∷ den / 256 ∷ den % 256 ∷ night / 256 ∷ night % 256 ∷ extent / 256 ∷ extent % 256 ∷ []

-- of an outcome: its tag and its two levels, beside its number and place
abbrev pub tag_in : Outcome → ℕ
tag_in (Ok Done) = 0
tag_in (Ok (Levels slot den night)) = 1
tag_in (Err why) = 2

abbrev pub den_in : Outcome → ℕ
den_in (Ok Done) = 0
den_in (Ok (Levels slot den night)) = tenths den
den_in (Err why) = 0

abbrev pub night_in : Outcome → ℕ
night_in (Ok Done) = 0
night_in (Ok (Levels slot den night)) = tenths night
night_in (Err why) = 0

abbrev pub of_outcome : Outcome → ℕ → List ℕ
of_outcome o extent = line (tag_in o) (outcome_number o) (outcome_place o) (den_in o) (night_in o) extent

-- of writing
abbrev pub tag_written : Written → ℕ
tag_written (Ok tt) = 0
tag_written (Err why) = 2

abbrev pub of_written : Written → ℕ → List ℕ
of_written w extent = line (tag_written w) (number_written w) (place_written w) 0 0 extent
