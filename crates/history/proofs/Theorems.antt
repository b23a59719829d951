-- The theorems of specs/History.antt, all together.
-- `theorems` takes the laws of a store; `of_this_book` are the theorems of this project's store, with nothing assumed.
use Rattle.history.specs.History.{Theorems}
use Rattle.history.proofs.Laws.{StoreLaws, store_laws}
use Rattle.history.proofs.History.{calls_agree, accepted_number, refused_leaves, clear_forgets, never_late, accepts_by_rule, holds_what_stands}
use Rattle.history.proofs.Keeps.{stays_sound}
use Rattle.history.proofs.Numbers.{numbers, places}
use Rattle.history.proofs.Rebuild.{rebuilt, anew_rebuilds}
use Rattle.history.proofs.Setting.{same_bytes, in_one_call}

pub theorems : StoreLaws → Theorems
theorems laws = record {
  holds_what_stands = holds_what_stands laws;
  never_late = never_late laws;
  accepts_by_rule = accepts_by_rule laws;
  rebuilt = rebuilt laws;
  anew_rebuilds = anew_rebuilds;
  same_bytes = same_bytes laws;
  in_one_call = in_one_call laws;
  clear_forgets = clear_forgets laws;
  accepted_number = accepted_number;
  numbers = numbers;
  places = places;
  refused_leaves = refused_leaves;
  stays_sound = stays_sound;
  agrees = calls_agree;
}

pub of_this_book : Theorems
of_this_book = theorems store_laws
