-- `enter_receiver` writes a receiver with what the sources bring, unless one is barred. Assumes nothing.
use Rattle.std.specs.Prelude.{Ok, Err}
use mathlib.Core.Path.{◌≡◌, refl, sym, ap, ◌∙◌, subst}
use Prim.Native.Nat.{ℕ}
use mathlib.Core.Bool.{true}
use mathlib.Core.List.{List}
use mathlib.Core.Option.{Option, none, some}
use lib.ListN.{set}
use Rattle.std.proofs.lemmas.Result.{err_from_is_err_and}
use Rattle.screen.specs.declared.Wall.{Wall}
use Rattle.road.specs.Reach.{pair_of}
use Rattle.road.proofs.Pairs.{pair_bounded}
use Rattle.ledger.specs.Ledger.{unless_stopped, gathered, SeatStands}
use Rattle.answer.specs.declared.Refusal.{Refusal}
use Rattle.account.specs.declared.Account.{Account}
use Rattle.account.specs.Account.{sound}
use Rattle.store.specs.declared.Held.{Held}
use Rattle.store.specs.Store.{Book, book, book_of, book_bytes}
use Rattle.store.proofs.Laws.{many_sources, undamaged, sound_book, set_held}
use Rattle.calls.specs.declared.Reply.TheVariants.{Done}
use Rattle.ledger.specs.Lists.{present, weigh}
use Rattle.calls.specs.Calls.{change, told, unless_barred, pair_in}
use Rattle.calls.proofs.Sums.{never, weigh_sound}
use Rattle.undamaged.proofs.enter_receiver.Goals as goal
use Rattle.undamaged.proofs.enter_receiver.Goals.{After-gather}

-- what a gathering says: the first bar, or the sums
barred : (s : List ℕ) (o : Option Refusal) (a : Account) (b : Book) (why : Refusal) → Err why ≡ unless_stopped o (Ok a) → (Err why, s) ≡ told s (unless_barred o (change b))
barred s none a b why e = never cc
barred s (some r) a b why e = let k : why ≡ r = cc in ap (λ (q : Refusal). (Err q, s)) k

summed : (o : Option Refusal) (a sums : Account) → Ok sums ≡ unless_stopped o (Ok a) → (o ≡ none) × (sums ≡ a)
summed none a sums e = (refl, cc)
summed (some r) a sums e = never cc

-- the sources were gathered among the walls of the book
among : (c : After-gather) → c.gather.result ≡ gathered (pair_in (book_of c.args.store.now)) c.args.r (book_of c.args.store.now).sources
among c = c.gather.ensures ∙ ap (λ (ws : List Wall). gathered (pair_of ws) c.args.r (book_of c.args.store.now).sources) c.standing-walls.ensures

pub returns-in_err-sums : goal.returns-in_err-sums
returns-in_err-sums c =
    let p = err_from_is_err_and c.from_residual.result c.from_residual.ensures.1 in
    rw (p.1, p.2) (barred c.args.store.now _ _ _ _ (sym c.in_err-sums.was ∙ among (goal.at.returns-in_err-sums c).After-gather))

pub put-requires : goal.put-requires
put-requires c =
    let s = c.args.store.now in
    let b = book_of s in
    let g = summed _ _ _ (sym c.in_ok-sums.was ∙ among (goal.at.put-requires c).After-gather) in
    let small = weigh_sound (pair_in b) (pair_bounded (present b.walls)) b.sources c.args.r ((sound_book s c.requires.0).source_slots_lem ∙ sym many_sources) in
    record {
      place = (c.requires.1, (undamaged s c.requires.0).0);
      stands = λ x e. subst SeatStands e (c.requires.2, subst (λ (a : Account). sound a ≡ true) (sym g.1) small);
    }

pub returns : goal.returns
returns c =
    let s = c.args.store.now in
    let b = book_of s in
    let r = c.args.r in
    let g = summed _ _ _ (sym c.in_ok-sums.was ∙ among (goal.at.returns c).After-gather) in
    let held : Account → Option Held = λ a. some (record { who = r; sums = a }) in
    ap (λ (u : List ℕ). (Ok Done, u))
    (c.put.ensures
    ∙ set_held s c.args.j (held c.in_ok-sums.sums) (λ i. (c.slice_known-1.given i).fits) c.requires.0 c.requires.1
    ∙ ap (λ (a : Account). book_bytes (book b.sources (set b.receivers c.args.j (held a)) b.walls)) g.1)
    ∙ ap (λ (o : Option Refusal). told s (unless_barred o (change (book b.sources (set b.receivers c.args.j (some (weigh (pair_in b) (present b.sources) r))) b.walls)))) (sym g.0)
