-- `hear_all` hears the source at every receiver. Assumes nothing.
use mathlib.Core.Path.{sym, ap, ◌∙◌, subst}
use native.Mathlib.Omega.{arith}
use native.Mathlib.Numerals.{add-one}
use mathlib.Core.List.{List}
use mathlib.Core.Option.{none}
use lib.ListN.{get_or, set}
use Rattle.road.specs.Reach.{pair_of}
use Rattle.ledger.specs.declared.Tally.{Tally}
use Rattle.ledger.specs.Ledger.{begun, heard_from, Ready}
use Rattle.ledger.proofs.Mapped.{turned, turned_none, turned_here, turned_next, turned_all}
use Rattle.afresh.proofs.hear_all.Goals as goal

pub loop-t-init : goal.loop-t-init
loop-t-init c = turned_none (heard_from (pair_of c.args.walls.now) c.args.from.now) c.args.tallies.now

pub hear-requires : goal.hear-requires
hear-requires c =
    let f : Tally → Tally = heard_from (pair_of c.args.walls.now) c.args.from.now in
    let j = c.loop-t.t-index in
    let e = ap (λ (ts : List Tally). get_or ts j (begun none)) c.loop-t.invariant ∙ turned_here f (begun none) c.args.tallies.now j in
    subst (λ (t : Tally). Ready t.seat) (sym e) (c.requires.each j)

pub loop-t-preserved : goal.loop-t-preserved
loop-t-preserved c =
    let f : Tally → Tally = heard_from (pair_of c.args.walls.now) c.args.from.now in
    let l = c.args.tallies.now in
    let j = c.loop-t.t-index in
    let e = ap (λ (ts : List Tally). get_or ts j (begun none)) c.loop-t.invariant ∙ turned_here f (begun none) l j in
    ap (λ (t : Tally). set c.loop-t.tallies j t) (c.hear.ensures ∙ ap f e)
    ∙ ap (λ (ts : List Tally). set ts j (f (get_or l j (begun none)))) c.loop-t.invariant
    ∙ turned_next f (begun none) l j
    ∙ sym (ap (turned f l) (add-one j))

pub returns : goal.returns
returns c =
    c.loop-t.invariant
    ∙ turned_all (heard_from (pair_of c.args.walls.now) c.args.from.now) c.args.tallies.now c.loop-t.t-index (omega (arith, c.loop-t-test.false, c.requires.count))
