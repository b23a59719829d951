-- `numbers` are the mark and the fields, which fit where they may stand.
-- Assumes nothing.
use Rattle.std.proofs.Common.{rules}
use Rattle.store.specs.Store.{wall_party}
use Rattle.store.proofs.Parties.{wall_fits}
use Rattle.store.proofs.Places.{numbers_fit}
use Rattle.store.proofs.walls.WallSlottedNUMBERS.numbers.Goals as goal

pub returns : goal.returns
returns c = numbers_fit wall_party _ c.args.self (search rules) (wall_fits c.args.self c.requires)
