-- What the first pass of a round tells of a change: its bar, whether all receivers can follow, and the seats to write.
-- Assumes nothing.
use Rattle.std.specs.Prelude.{None, Ok, Err}
use mathlib.Core.Path.{◌≡◌, refl, sym, ap, ap₂, ◌∙◌, subst}
use mathlib.Core.Bool.{Bool, true, false}
use mathlib.Core.Option.{Option, none, some}
use mathlib.Core.List.{List, [], ◌∷◌, map}
use Prim.Native.Nat.{ℕ, zero, suc}
use native.Mathlib.Omega.{arith}
use lib.ListN.{length, get_or, length-map}
use Rattle.answer.specs.declared.Refusal.{Refusal}
use Rattle.answer.specs.declared.Refusal.TheVariants.{Damaged}
use Rattle.screen.specs.declared.Wall.{Wall}
use Rattle.road.specs.declared.Source.{Source}
use Rattle.road.specs.Reach.{pair_of}
use Rattle.road.specs.Pairs.{Pairing, is_heard}
use Rattle.store.specs.declared.Held.{Held}
use Rattle.account.specs.Account.{sound, covers}
use Rattle.road.proofs.Pairs.{pair_bounded}
use Rattle.store.specs.Store.{receiver_count, source_slots, Seat, Book, book_of, book_bytes, HeldStands, SoundBook}
use Rattle.ledger.specs.Lists.{omap, present, every}
use Rattle.ledger.specs.Changes.{Change, follow, bar_of, pair_by, exchange, renewing}
use Rattle.ledger.specs.Ledger.{to_seat, unless_stopped, in_time, rounded, seated, SeatStands, StandingSeats}
use Rattle.ledger.proofs.Rounds.{and_both, seated_map}
use Rattle.calls.specs.declared.Reply.TheVariants.{Done}
use Rattle.calls.specs.Calls.{change, told, unless_barred, unless_late, followed}
use Rattle.calls.proofs.Sums.{never, weigh_sound}

-- ---- the seats of a round may be in the book

every_at : (p : Held → Bool) (l : List (Option Held)) → every p (present l) ≡ true → (j : ℕ) (x : Held) → get_or l j none ≡ some x → p x ≡ true
every_at p [] e j x q = absurd (let z : ◌≡◌ {A = ℕ} 0 1 = cc in omega arith)
every_at p (none ∷ l) e zero x q = absurd (let z : ◌≡◌ {A = ℕ} 0 1 = cc in omega arith)
every_at p (some y ∷ l) e zero x q = let k : y ≡ x = cc in subst (λ (a : Held). p a ≡ true) k (and_both (p y) (every p (present l)) e).0
every_at p (none ∷ l) e (suc j) x q = every_at p l e j x q
every_at p (some y ∷ l) e (suc j) x q = every_at p l (and_both (p y) (every p (present l)) e).1 j x q

seats_stand : (f : Held → Held) (l : List (Option Held)) → length l ≡ receiver_count → ((j : ℕ) (x : Held) → get_or l j none ≡ some x → HeldStands (f x))
    → StandingSeats (map to_seat (map (omap f) l))
seats_stand f l n h = record {
  count = length-map (map (omap f) l) to_seat ∙ length-map l (omap f) ∙ n;
  stand = λ j. subst SeatStands (sym (at l j)) (go j (get_or l j none) refl);
}
  where
    at : (m : List (Option Held)) (j : ℕ) → get_or (map to_seat (map (omap f) m)) j None ≡ to_seat (omap f (get_or m j none))
    at [] j = refl
    at (o ∷ m) zero = refl
    at (o ∷ m) (suc j) = at m j

    go : (j : ℕ) (o : Option Held) → get_or l j none ≡ o → SeatStands (to_seat (omap f o))
    go j none e = tt
    go j (some x) e = h j x e

-- ---- a change that keeps every sum in its bounds

abbrev pub KeepsSound : Change → Type 0
KeepsSound c = (x : Held) → sound x.sums ≡ true → c.fits x ≡ true → sound (c.sums x) ≡ true

-- what there is room for stays in its bounds
pub exchange_sound : (pair : Pairing) (goes comes : Option Source) → KeepsSound (exchange pair goes comes)
exchange_sound pair goes comes x e f = (and_both (covers x.sums _) _ (and_both (is_heard (pair_by pair goes x.who)) _ f).1).1

-- a change of walls: a source a slot at most
pub renewing_sound : (ws : List Wall) (S : List (Option Source)) → length S ≡ source_slots → KeepsSound (renewing (pair_of ws) (present S))
renewing_sound ws S n x e f = weigh_sound (pair_of ws) (pair_bounded ws) S x.who n

-- ---- a round that gives seats: no bar, and all follow

given : (o : Option Refusal) (fits : Bool) (ts us : List Seat) → Ok us ≡ unless_stopped o (in_time fits ts) → (o ≡ none) × (fits ≡ true) × (us ≡ ts)
given none true ts us e = (refl, refl, cc)
given none false ts us e = never cc
given (some r) fits ts us e = never cc

module _ (c : Change) (b : Book) (ts : List Seat) (g : Ok ts ≡ rounded c b.receivers) where
  all_given : (bar_of c b.receivers ≡ none) × (every c.fits (present b.receivers) ≡ true) × (ts ≡ map to_seat (map (omap (follow c)) b.receivers))
  all_given = given _ _ _ _ g

  change_written : seated ts b.receivers ≡ map (omap (follow c)) b.receivers
  change_written = ap (λ (us : List Seat). seated us b.receivers) all_given.2 ∙ seated_map (follow c) b.receivers

  pub change_stand : KeepsSound c → SoundBook b → StandingSeats ts
  change_stand k h =
      rw all_given.2 (seats_stand (follow c) b.receivers h.seats
      (λ j x q. ((h.receivers_stand j x q).0, k x (h.receivers_stand j x q).1 (every_at c.fits b.receivers all_given.1 j x q))))

-- ---- what a call answers and leaves, by what the round gives

refused : (s : List ℕ) (o : Option Refusal) (fits : Bool) (ts : List Seat) (b : Book) (why : Refusal) → Err why ≡ unless_stopped o (in_time fits ts)
    → (Err why, s) ≡ told s (unless_barred o (unless_late fits (change b)))
refused s none true ts b why e = never cc
refused s none false ts b why e = let k : why ≡ Damaged = cc in ap (λ (r : Refusal). (Err r, s)) k
refused s (some r) fits ts b why e = let k : why ≡ r = cc in ap (λ (r : Refusal). (Err r, s)) k

module _ (s : List ℕ) (c : Change) (after : List (Option Held) → Book) where
  pub told_barred : (why : Refusal) → Err why ≡ rounded c (book_of s).receivers → (Err why, s) ≡ told s (followed c after (book_of s))
  told_barred why e = refused s _ _ _ (after (map (omap (follow c)) (book_of s).receivers)) why e

  pub told_done : (ts : List Seat) (u : List ℕ) → Ok ts ≡ rounded c (book_of s).receivers → u ≡ book_bytes (after (seated ts (book_of s).receivers))
      → (Ok Done, u) ≡ told s (followed c after (book_of s))
  told_done ts u g w =
      let all = all_given c (book_of s) ts g in
      let l = (book_of s).receivers in
      ap (λ (v : List ℕ). (Ok Done, v)) (w ∙ ap (λ (m : List (Option Held)). book_bytes (after m)) (change_written c (book_of s) ts g))
      ∙ sym (ap₂ (λ (o : Option Refusal) (fits : Bool). told s (unless_barred o (unless_late fits (change (after (map (omap (follow c)) l)))))) all.0 all.1)
