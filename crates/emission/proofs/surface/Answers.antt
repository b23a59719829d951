-- `surface` reads table 3: what surfaces 1 to 5 add, and what 6 to 9 take off. Assumes nothing.
use mathlib.Core.List.{[]}
use lib.ListN.{get_or}
use borrow.Author.Tests.{le-leb, lt-leb}
use Rattle.road.specs.Term.{term}
use Rattle.road.specs.Emission.{surface_table, surface_term}
use Rattle.emission.proofs.surface.Goals as goal

pub returns-then-kind-le5 : goal.returns-then-kind-le5
unfolding surface_term
returns-then-kind-le5 c =
    rw (le-leb c.args.kind 5 c.if-kind-le5.true)
    (λ i. term (get_or (get_or surface_table (c.from.ensures i) []) (c.column-at.ensures.0 i) 0) 0)

pub returns-else-kind-le5 : goal.returns-else-kind-le5
unfolding surface_term
returns-else-kind-le5 c =
    rw (lt-leb c.args.kind 5 c.if-kind-le5.false)
    (λ i. term 0 (get_or (get_or surface_table (c.from.ensures i) []) (c.column-at.ensures.0 i) 0))
