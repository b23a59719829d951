-- `enter_source` exchanges whoever is in the slot for the source that comes. Assumes nothing.
use Rattle.std.specs.Prelude.{Option as Maybe, None, Some}
use mathlib.Core.Path.{◌≡◌, sym, ap, ◌∙◌}
use mathlib.Core.Option.{Option, none, some}
use mathlib.Core.Bool.{false}
use mathlib.Core.List.{List}
use Prim.Native.Nat.{ℕ, ◌<◌}
use borrow.Author.Rules.{rules}
use lib.ListN.{get_or}
use Rattle.std.specs.Option.{MatchOption, IsSomeAnd}
use Rattle.road.specs.declared.Source.{Source}
use Rattle.store.specs.Store.{source_count, damaged, book_of, source_at, source_slot_of}
use Rattle.store.proofs.Laws.{undamaged, source_slot_used, source_slot_free}
use Rattle.store.specs.Slots.{entry}
use Rattle.calls.specs.Calls.{told, change_source}
use Rattle.undamaged.proofs.enter_source.Goals as goal

pub read-requires : goal.read-requires
read-requires c = (c.requires.1, (undamaged c.args.store.now c.requires.0).0)

pub map-goes-requires : goal.map-goes-requires
map-goes-requires c = λ x e. (source_slot_used c.args.store.now c.args.i c.requires.0 c.requires.1 x (sym c.read.ensures ∙ e)).1.0

-- whoever was found in the slot goes: what is known once each of them is on a round
module _ {Q : Source → Source → Type 0} (s : List ℕ) (i : ℕ) (d : damaged s ≡ false) (l : i < source_count) (q : (x p : Source) → Q x p → p ≡ x) where
  goes : (t u : Maybe Source) → t ≡ source_slot_of (source_at i s) → MatchOption t (u ≡ None) (λ x. IsSomeAnd u (Q x)) → entry u ≡ get_or (book_of s).sources i none
  goes None u e h = rw h (sym (source_slot_free s i d l (sym e)))
  goes (Some x) None e h = absurd h
  goes (Some x) (Some p) e h = ap some (q x p h) ∙ sym (source_slot_used s i d l x (sym e)).0

pub change_source-requires : goal.change_source-requires
change_source-requires c =
    (c.requires.0, c.requires.1, goes c.args.store.now c.args.i c.requires.0 c.requires.1 (λ x p q. search rules) c.read.result c.map-goes.result c.read.ensures c.map-goes.ensures.cases)

pub returns : goal.returns
returns c =
    c.change_source.ensures
    ∙ ap (λ (o : Option Source). told c.args.store.now (change_source c.args.i o (book_of c.args.store.now))) (ap some c.sends-comes.ensures)
