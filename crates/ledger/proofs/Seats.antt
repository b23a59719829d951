-- The second pass of a source's round: one seat after the other is written, and the book stays sound.
-- Assumes nothing.
use Rattle.std.specs.Prelude.{None, Some}
use mathlib.Core.Path.{◌≡◌, refl, sym, ap, ◌∙◌, subst}
use mathlib.Core.Option.{Option, some}
use mathlib.Core.List.{List, [], ◌∷◌}
use Prim.Native.Nat.{ℕ, zero, suc, ◌<◌}
use native.Mathlib.Omega.{arith}
use native.Mathlib.Nat.{not-suc-le-zero}
use lib.ListN.{length, get_or, take}
use Rattle.store.specs.declared.Held.{Held}
use Rattle.store.specs.Store.{Book, book_of, book_bytes, HeldStands, SoundBook, Seat}
use Rattle.store.proofs.Laws.{Holds, sound_book, sound_held, holds_bytes}
use Rattle.ledger.specs.Ledger.{SeatStands, seat_over, seated, seated_at, settled}

pub seated_next : (ts : List Seat) (os : List (Option Held)) (j : ℕ) → j < length ts → j < length os
    → seated (take (suc j) ts) os ≡ seated_at (get_or ts j None) j (seated (take j ts) os)
unfolding seated
seated_next [] os j h k = absurd (not-suc-le-zero h)
seated_next (t ∷ ts) [] j h k = absurd (not-suc-le-zero k)
seated_next (None ∷ ts) (o ∷ os) zero h k = refl
seated_next (Some x ∷ ts) (o ∷ os) zero h k = refl
seated_next (t ∷ ts) (o ∷ os) (suc j) h k =
    ap (λ (m : List (Option Held)). seat_over t o ∷ m) (seated_next ts os j (omega arith) (omega arith))
    ∙ behind (get_or ts j None) (seat_over t o) (seated (take j ts) os)
  where
    behind : (u : Seat) (o : Option Held) (l : List (Option Held)) → (o ∷ seated_at u j l) ≡ seated_at u (suc j) (o ∷ l)
    behind None o l = refl
    behind (Some x) o l = refl

seat_sound : (b : Book) (j : ℕ) (t : Seat) → SoundBook b → SeatStands t → SoundBook (settled t j b)
seat_sound b j None h f = h
seat_sound b j (Some x) h f = sound_held b j (some x) h (λ (a : Held) q. (let k : x ≡ a = cc in subst HeldStands k f))

pub seat_holds : (s u : List ℕ) (b : Book) (j : ℕ) (t : Seat) → Holds s b → SeatStands t → u ≡ book_bytes (settled t j (book_of s)) → Holds u (settled t j b)
seat_holds s u b j t h f e =
    let g : SoundBook b = subst SoundBook h.is (sound_book s h.whole) in
    subst (λ (v : List ℕ). Holds v (settled t j b)) (sym (e ∙ ap (λ (c : Book). book_bytes (settled t j c)) h.is)) (holds_bytes (settled t j b) (seat_sound b j t g f))
