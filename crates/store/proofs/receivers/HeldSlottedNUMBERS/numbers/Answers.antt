-- `numbers` are the mark and the fields, which fit where they may stand.
-- Assumes nothing.
use Rattle.std.proofs.Common.{rules}
use Rattle.store.specs.Store.{held_party}
use Rattle.store.proofs.Parties.{held_fits}
use Rattle.store.proofs.Places.{numbers_fit}
use Rattle.store.proofs.receivers.HeldSlottedNUMBERS.numbers.Goals as goal

pub returns : goal.returns
returns c = numbers_fit held_party _ c.args.self (search rules) (held_fits c.args.self c.requires)
