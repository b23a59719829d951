-- Every call of a history keeps an undamaged store undamaged, and clearing makes one: the law by which a store that is watched needs no look
-- for damage. Assumes nothing.
use Rattle.std.specs.Prelude.{Ok, Err}
use mathlib.Core.Path.{◌≡◌, ap, ◌∙◌}
use mathlib.Core.Bool.{Bool, true, false, cond}
use mathlib.Core.List.{List}
use Prim.Native.Nat.{ℕ}
use borrow.Author.Tests.{eq-eqb}
use lib.Dec.{eqb}
use lib.ListN.{length}
use Rattle.answer.specs.declared.Refusal.TheVariants.{Damaged}
use Rattle.store.specs.Store.{Book, damaged, book_of, store_length, cleared_bytes}
use Rattle.store.proofs.Laws.{cleared, sound_book}
use Rattle.calls.specs.Calls.{Answer}
use Rattle.calls.specs.declared.Reply.TheVariants.{Done}
use Rattle.calls.specs.Calls.{Step, place_source, withdraw_source, place_receiver, withdraw_receiver, place_wall, withdraw_wall, ask_receiver, on_store, clear_store}
use Rattle.calls.proofs.Keeps.{Keep, source_in, source_out, receiver_in, receiver_out, wall_in, wall_out, asked, told_sound}
use Rattle.history.specs.History.{Call, Clear, PlaceSource, WithdrawSource, PlaceReceiver, WithdrawReceiver, PlaceWall, WithdrawWall, Ask, perform}
use Rattle.history.specs.History.{RealCall}

step_sound : (s : List ℕ) (f : Book → Step) → damaged s ≡ false → Keep (f (book_of s)) → damaged (on_store f s).1 ≡ false
unfolding on_store
step_sound s f d k = rw d (told_sound s (f (book_of s)) d k)

clear_sound : (s : List ℕ) → damaged s ≡ false → damaged (clear_store s).1 ≡ false
unfolding clear_store
clear_sound s d = go (eqb (length s) store_length)
  where
    go : (t : Bool) → damaged (cond {A = Answer × List ℕ} t (Ok Done, cleared_bytes) (Err Damaged, s)).1 ≡ false
    go true = cleared.whole
    go false = d

pub stays_sound : (c : Call) → RealCall c → (s : List ℕ) → damaged s ≡ false → damaged (perform c s).1 ≡ false
stays_sound Clear r s d = clear_sound s d
stays_sound (PlaceSource i x) r s d = step_sound s (place_source i x) d (source_in (book_of s) (sound_book s d) i x r)
stays_sound (WithdrawSource i) r s d = step_sound s (withdraw_source i) d (source_out (book_of s) (sound_book s d) i)
stays_sound (PlaceReceiver j x) r s d = step_sound s (place_receiver j x) d (receiver_in (book_of s) (sound_book s d) j x)
stays_sound (WithdrawReceiver j) r s d = step_sound s (withdraw_receiver j) d (receiver_out (book_of s) (sound_book s d) j)
stays_sound (PlaceWall k w) r s d = step_sound s (place_wall k w) d (wall_in (book_of s) (sound_book s d) k w)
stays_sound (WithdrawWall k) r s d = step_sound s (withdraw_wall k) d (wall_out (book_of s) (sound_book s d) k)
stays_sound (Ask j) r s d = step_sound s (ask_receiver j) d (asked (book_of s) (sound_book s d) j)

-- and a store of the right length that is cleared is undamaged
pub cleared_sound : (s u : List ℕ) (a : Answer) → length s ≡ store_length → (a, u) ≡ clear_store s → damaged u ≡ false
unfolding clear_store
cleared_sound s u a l e =
    ap (λ (o : Answer × List ℕ). damaged o.1)
    (e ∙ ap (λ (b : Bool). cond {A = Answer × List ℕ} b (Ok Done, cleared_bytes) (Err Damaged, s)) (eq-eqb (length s) store_length l))
    ∙ cleared.whole
