-- `gather` adds up what the sources bring, from the lowest slot on. Assumes nothing.
use Rattle.std.specs.Prelude.{Option as Maybe, None, Some, Err}
use mathlib.Core.Path.{◌≡◌, sym, ap, ◌∙◌, subst}
use mathlib.Core.Option.{Option, none, some}
use Prim.Native.Nat.{ℕ, ◌+◌, ◌<◌}
use native.Mathlib.Omega.{arith}
use lib.ListN.{length, get_or}
use Rattle.road.specs.Reach.{pair_of}
use Rattle.road.specs.declared.Source.{Source}
use Rattle.road.specs.declared.Receiver.{Receiver}
use Rattle.road.specs.Results.{Pair}
use Rattle.road.specs.Pairs.{Pairing}
use Rattle.road.proofs.Pairs.{pair_bounded}
use Rattle.account.specs.declared.Account.{Account}
use Rattle.account.specs.Account.{nothing}
use Rattle.store.specs.Store.{book_of}
use Rattle.store.proofs.Laws.{sound_book}
use Rattle.ledger.specs.Ledger.{offer_of}
use Rattle.ledger.proofs.Gathers.{Gathers, gather_begun, gather_free, gather_heard, gather_room, gather_barred, gather_over, gather_stopped}
use Rattle.ledger.proofs.gather.gather.Goals as goal
use Rattle.ledger.proofs.gather.gather.Goals.{in-Some-Ok, in-None}

-- an offer tells who is in the slot
offered : (pair : Pairing) (r : Receiver) (o : Option Source) (p : Pair) → Some p ≡ offer_of pair r o → (s : Source) × (o ≡ some s) × (p ≡ pair s r)
offered pair r none p e = absurd (let z : ◌≡◌ {A = ℕ} 0 1 = cc in omega arith)
offered pair r (some s) p e = (s, (λ i. some s), cc)

unoffered : (pair : Pairing) (r : Receiver) (o : Option Source) → ◌≡◌ {A = Maybe Pair} None (offer_of pair r o) → o ≡ none
unoffered pair r none e = λ i. none
unoffered pair r (some s) e = absurd (let z : ◌≡◌ {A = ℕ} 0 1 = cc in omega arith)

pub loop-i-init : goal.loop-i-init
loop-i-init c =
    let pair : Pairing = pair_of c.args.walls.now in
    let bounded = pair_bounded c.args.walls.now in
    let l = (book_of c.args.store.now).sources in
    let z = c.default-sums.ensures in
    let e : c.default-sums.result ≡ nothing = λ i. record { day = z.0 i; evening = z.1.0 i; night = z.1.1 i } in
    subst (λ (a : Account). Gathers pair bounded c.args.r l a 0) (sym e) (gather_begun pair bounded c.args.r l)

pub returns-in-Some-Err : goal.returns-in-Some-Err
returns-in-Some-Err c =
    let pair : Pairing = pair_of c.args.walls.now in
    let bounded = pair_bounded c.args.walls.now in
    let l = (book_of c.args.store.now).sources in
    let within : c.loop-i.i < length l = omega (arith, (sound_book c.args.store.now c.requires.0).source_slots_lem, c.loop-i-test.true) in
    let o = offered pair c.args.r (get_or l c.loop-i.i none) c.in-Some-Err.field-0 c.in-Some-Err.ensures in
    ap Err c.bar_at.ensures
    ∙ gather_stopped pair bounded c.args.r l _
    (gather_barred pair bounded c.args.r l c.loop-i.i within c.loop-i.sums c.loop-i.invariant o.0 c.in-Some-Err.bar o.1 (sym o.2 ∙ c.in-Some-Err.field-0-is))

pub plus-sums-requires : goal.plus-sums-requires
plus-sums-requires c =
    let pair : Pairing = pair_of c.args.walls.now in
    let bounded = pair_bounded c.args.walls.now in
    let l = (book_of c.args.store.now).sources in
    let within : c.loop-i.i < length l = omega (arith, (sound_book c.args.store.now c.requires.0).source_slots_lem, c.loop-i-test.true) in
    let o = offered pair c.args.r (get_or l c.loop-i.i none) c.in-Some-Ok.field-0 c.in-Some-Ok.ensures in
    gather_room pair bounded c.args.r l c.loop-i.i within c.loop-i.sums c.loop-i.invariant o.0 c.in-Some-Ok.shares (omega (arith, c.loop-i-test.true)) (sym o.2 ∙ c.in-Some-Ok.field-0-is)

pub loop-i-preserved : goal.loop-i-preserved
loop-i-preserved c =
    let pair : Pairing = pair_of c.args.walls.now in
    let bounded = pair_bounded c.args.walls.now in
    let l = (book_of c.args.store.now).sources in
    let i = c.loop-i.i in
    let within : i < length l = omega (arith, (sound_book c.args.store.now c.requires.0).source_slots_lem, c.loop-i-test.true) in
    let after : Account → Type 0 = λ sums. Gathers pair bounded c.args.r l sums (i + 1) in
    elim c.match-hear_source.branch [
      | in-Some-Ok w ↦
          let o = offered pair c.args.r (get_or l i none) w.in-Some-Ok.field-0 w.in-Some-Ok.ensures in
          subst after (sym (w.sums-is ∙ w.plus-sums.ensures))
          (gather_heard pair bounded c.args.r l i within c.loop-i.sums c.loop-i.invariant o.0 w.in-Some-Ok.shares o.1 (sym o.2 ∙ w.in-Some-Ok.field-0-is))
      | in-None w ↦
          subst after (sym w.sums-is) (gather_free pair bounded c.args.r l i within c.loop-i.sums c.loop-i.invariant (unoffered pair c.args.r (get_or l i none) w.in-None.ensures))
    ]

pub returns : goal.returns
returns c =
    gather_over (pair_of c.args.walls.now) (pair_bounded c.args.walls.now) c.args.r (book_of c.args.store.now).sources c.loop-i.sums c.loop-i.i
    (omega (arith, (sound_book c.args.store.now c.requires.0).source_slots_lem, c.loop-i-test.false)) c.loop-i.invariant
