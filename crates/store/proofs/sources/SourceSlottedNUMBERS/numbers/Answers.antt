-- `numbers` are the mark and the fields, which fit where they may stand.
-- Assumes nothing.
use Rattle.std.proofs.Common.{rules}
use Rattle.store.specs.Store.{source_party}
use Rattle.store.proofs.Parties.{source_fits}
use Rattle.store.proofs.Places.{numbers_fit}
use Rattle.store.proofs.sources.SourceSlottedNUMBERS.numbers.Goals as goal

pub returns : goal.returns
returns c = numbers_fit source_party _ c.args.self (search rules) (source_fits c.args.self c.requires)
