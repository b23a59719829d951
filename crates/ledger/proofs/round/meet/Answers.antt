-- `meet` works out the pair that comes, then the one that goes, and exchanges their shares. Assumes nothing.
use Rattle.std.specs.Prelude.{Ok, Err}
use mathlib.Core.Path.{◌≡◌, sym, ◌∙◌}
use mathlib.Core.Option.{Option}
use Rattle.road.specs.declared.Source.{Source}
use Rattle.road.specs.declared.Bar.{Bar}
use Rattle.road.specs.declared.Shares.{Shares}
use Rattle.road.specs.Results.{Pair}
use Rattle.road.specs.Pairs.{Pairing}
use Rattle.road.specs.Reach.{pair_of}
use Rattle.store.specs.declared.Held.{Held}
use Rattle.ledger.specs.declared.round.Turn.TheVariants.{Barred}
use Rattle.store.specs.Slots.{entry}
use Rattle.ledger.specs.Changes.{pair_by, exchange}
use Rattle.ledger.specs.Ledger.{exchanged_by, turn_of}
use Rattle.ledger.proofs.round.meet.Goals as goal

module _ (pair : Pairing) (goes comes : Option Source) (x : Held) where
  -- the source that comes is barred
  barred : (b : Bar) → pair_by pair comes x.who ≡ Err b → Barred b ≡ turn_of (exchange pair goes comes) x
  unfolding turn_of
  barred b e = rw (e, turn_of)

  -- it is heard: what becomes of the account is the exchange, or the late 1
  heard : (more : Shares) → pair_by pair comes x.who ≡ Ok more → (p : Pair) → p ≡ pair_by pair goes x.who
      → exchanged_by p more x.sums ≡ turn_of (exchange pair goes comes) x
  unfolding turn_of
  heard more e (Ok less) f = rw (e, sym f, turn_of)
  heard more e (Err b) f = rw (e, sym f, turn_of)

pub returns-in-Err : goal.returns-in-Err
returns-in-Err c =
    barred (pair_of c.args.walls.now) (entry c.args.goes.now) (entry c.args.comes.now) c.args.x _ (sym c.in-Err.ensures)

pub returns-in-Ok : goal.returns-in-Ok
returns-in-Ok c =
    c.exchanged.ensures
    ∙ heard (pair_of c.args.walls.now) (entry c.args.goes.now) (entry c.args.comes.now) c.args.x _ (sym c.in-Ok.ensures) _ c.heard_at-in-Ok.ensures
