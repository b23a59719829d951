-- Every call keeps an undamaged store undamaged, whatever book stands in it: what it comes to is a book that a store can hold, or no change.
-- Assumes nothing.
use Rattle.std.specs.Prelude.{Ok, Err}
use mathlib.Core.Path.{◌≡◌, refl, sym, ap, subst, ◌∙◌}
use mathlib.Core.Bool.{Bool, true, false}
use mathlib.Core.Option.{Option, none, some}
use mathlib.Core.List.{List, [], ◌∷◌, map}
use Prim.Native.Nat.{ℕ, zero, suc}
use lib.ListN.{length, get_or, set, length-map}
use Rattle.answer.specs.declared.Refusal.{Refusal}
use Rattle.screen.specs.declared.Wall.{Wall}
use Rattle.road.specs.declared.Source.{Source}
use Rattle.road.specs.declared.Receiver.{Receiver}
use Rattle.road.specs.Results.{Verdict}
use Rattle.road.specs.Reach.{pair_of}
use Rattle.road.proofs.Pairs.{pair_bounded}
use Rattle.road.specs.Judge.{source_verdict, receiver_verdict, wall_verdict, slot_verdict}
use Rattle.store.specs.declared.Held.{Held}
use Rattle.store.specs.Slots.{Each}
use Rattle.store.specs.Store.{last_source, last_receiver, last_wall, Book, book, damaged, book_of, SourceStands, HeldStands, WallStands, SoundBook}
use Rattle.store.proofs.Laws.{many_sources, sound_book, book_bytes_lem, sound_source, sound_held, sound_wall}
use Rattle.calls.specs.Calls.{Answer}
use Rattle.ledger.specs.Lists.{omap, present, every, first_bar, weigh}
use Rattle.ledger.specs.Changes.{Change, follow, bar_of, exchange, renewing}
use Rattle.calls.specs.Calls.{Step, refuse, tell, change, allow, from_used, unless_barred, unless_late}
use Rattle.calls.specs.Calls.{pair_in, followed, change_source, place_source, withdraw_source, place_receiver, withdraw_receiver, change_wall, place_wall, withdraw_wall, ask_receiver, told}
use Rattle.road.proofs.Judged.{slot_allowed}
use Rattle.ledger.proofs.Rounds.{and_both}
use Rattle.calls.proofs.Rounded.{KeepsSound, exchange_sound, renewing_sound}
use Rattle.calls.proofs.Sums.{never, weigh_sound}

-- ---- a book that a store can hold, or no change

abbrev pub Keep : Step → Type 0
Keep (refuse r) = Unit {0}
Keep (tell a) = Unit {0}
Keep (change b) = SoundBook b

keep_allowed : (v : Verdict) (k : Step) → (v ≡ Ok tt → Keep k) → Keep (allow v k)
keep_allowed (Ok tt) k f = f refl
keep_allowed (Err r) k f = tt

keep_used : {A : Type 0} (o : Option A) (k : A → Step) → ((a : A) → Keep (k a)) → Keep (from_used o k)
keep_used none k f = tt
keep_used (some a) k f = f a

keep_unbarred : (o : Option Refusal) (k : Step) → (o ≡ none → Keep k) → Keep (unless_barred o k)
keep_unbarred none k f = f refl
keep_unbarred (some r) k f = tt

keep_intime : (t : Bool) (k : Step) → (t ≡ true → Keep k) → Keep (unless_late t k)
keep_intime true k f = f refl
keep_intime false k f = tt

-- ---- receivers that all move

moved_stand : (f : Held → Held) (p : Held → Bool) (l : List (Option Held)) → Each HeldStands l → every p (present l) ≡ true
    → ((x : Held) → HeldStands x → p x ≡ true → HeldStands (f x)) → Each HeldStands (map (omap f) l)
moved_stand f p [] h e k j y q = h j y q
moved_stand f p (none ∷ l) h e k zero y q = h 0 y q
moved_stand f p (some x ∷ l) h e k zero y q = let same : f x ≡ y = cc in subst HeldStands same (k x (h 0 x refl) (and_both (p x) (every p (present l)) e).0)
moved_stand f p (none ∷ l) h e k (suc j) y q = moved_stand f p l (λ i. h (suc i)) e k j y q
moved_stand f p (some x ∷ l) h e k (suc j) y q = moved_stand f p l (λ i. h (suc i)) (and_both (p x) (every p (present l)) e).1 k j y q

moved_sound : (b : Book) (f : Held → Held) (p : Held → Bool) → SoundBook b → every p (present b.receivers) ≡ true
    → ((x : Held) → HeldStands x → p x ≡ true → HeldStands (f x)) → SoundBook (book b.sources (map (omap f) b.receivers) b.walls)
moved_sound b f p h e k = record {
  source_slots_lem = h.source_slots_lem;
  wall_slots_lem = h.wall_slots_lem;
  seats = length-map b.receivers (omap f) ∙ h.seats;
  sources_stand = h.sources_stand;
  walls_stand = h.walls_stand;
  receivers_stand = moved_stand f p b.receivers h.receivers_stand e k;
}

-- ---- the calls

module _ (b : Book) (h : SoundBook b) where
  -- a change that all receivers follow
  all_followed : (c : Change) → KeepsSound c → (after : List (Option Held) → Book)
      → (SoundBook (book b.sources (map (omap (follow c)) b.receivers) b.walls) → SoundBook (after (map (omap (follow c)) b.receivers)))
      → Keep (followed c after b)
  all_followed c k after f =
      keep_unbarred (bar_of c b.receivers) _ λ w.
      keep_intime (every c.fits (present b.receivers)) _ λ t.
      f (moved_sound b (follow c) c.fits h t (λ x st r. (st.0, k x st.1 r)))

  -- after which source slot i holds o; after which wall slot k does
  source_changed : (i : ℕ) (o : Option Source) → ((a : Source) → o ≡ some a → SourceStands a) → Keep (change_source i o b)
  source_changed i o f =
      let c = exchange (pair_in b) (get_or b.sources i none) o in
      all_followed c (exchange_sound (pair_in b) (get_or b.sources i none) o) (λ rs. book (set b.sources i o) rs b.walls)
      (λ m. sound_source (book b.sources (map (omap (follow c)) b.receivers) b.walls) i o m f)

  wall_changed : (k : ℕ) (o : Option Wall) → ((a : Wall) → o ≡ some a → WallStands a) → Keep (change_wall k o b)
  wall_changed k o f =
      let c = renewing (pair_of (present (set b.walls k o))) (present b.sources) in
      all_followed c (renewing_sound _ b.sources (h.source_slots_lem ∙ sym many_sources)) (λ rs. book b.sources rs (set b.walls k o))
      (λ m. sound_wall (book b.sources (map (omap (follow c)) b.receivers) b.walls) k o m f)

  pub source_in : (i : ℕ) (s : Source) → length s.traffic ≡ 3 → Keep (place_source i s b)
  unfolding place_source
  source_in i s n =
      keep_allowed (slot_verdict last_source i (source_verdict s)) _ λ v.
      source_changed i (some s) (λ (a : Source) e. (let same : s ≡ a = cc in subst SourceStands same ((slot_allowed last_source i (source_verdict s) v).1, n)))

  pub source_out : (i : ℕ) → Keep (withdraw_source i b)
  unfolding withdraw_source
  source_out i =
      keep_allowed (slot_verdict last_source i (Ok tt)) _ λ v.
      keep_used (get_or b.sources i none) _ λ s.
      source_changed i none (λ (a : Source) e. never cc)

  pub receiver_in : (j : ℕ) (r : Receiver) → Keep (place_receiver j r b)
  unfolding place_receiver
  receiver_in j r =
      keep_allowed (slot_verdict last_receiver j (receiver_verdict r)) _ λ v.
      keep_unbarred (first_bar (λ (s : Source). pair_in b s r) 0 b.sources) _ λ o.
      sound_held b j (some (weigh (pair_in b) (present b.sources) r)) h
      (λ (a : Held) e. (
      let same : weigh (pair_in b) (present b.sources) r ≡ a = cc in
      subst HeldStands same (
        (slot_allowed last_receiver j (receiver_verdict r) v).1,
        weigh_sound (pair_in b) (pair_bounded (present b.walls)) b.sources r (h.source_slots_lem ∙ sym many_sources),
      )
      ))

  pub receiver_out : (j : ℕ) → Keep (withdraw_receiver j b)
  unfolding withdraw_receiver
  receiver_out j =
      keep_allowed (slot_verdict last_receiver j (Ok tt)) _ λ v.
      keep_used (get_or b.receivers j none) _ λ x.
      sound_held b j none h (λ (a : Held) e. never cc)

  pub wall_in : (k : ℕ) (w : Wall) → Keep (place_wall k w b)
  unfolding place_wall
  wall_in k w =
      keep_allowed (slot_verdict last_wall k (wall_verdict w)) _ λ v.
      wall_changed k (some w) (λ (a : Wall) e. (let same : w ≡ a = cc in subst WallStands same (slot_allowed last_wall k (wall_verdict w) v).1))

  pub wall_out : (k : ℕ) → Keep (withdraw_wall k b)
  unfolding withdraw_wall
  wall_out k =
      keep_allowed (slot_verdict last_wall k (Ok tt)) _ λ v.
      keep_used (get_or b.walls k none) _ λ w.
      wall_changed k none (λ (a : Wall) e. never cc)

  pub asked : (j : ℕ) → Keep (ask_receiver j b)
  unfolding ask_receiver
  asked j = keep_allowed (slot_verdict last_receiver j (Ok tt)) _ λ v. keep_used (get_or b.receivers j none) _ λ x. tt

-- ---- on bytes

pub told_sound : (s : List ℕ) (k : Step) → damaged s ≡ false → Keep k → damaged (told s k).1 ≡ false
told_sound s (refuse r) d f = d
told_sound s (tell a) d f = d
told_sound s (change b) d f = (book_bytes_lem b f).0

-- so does the code that answers and leaves just that
module _ (s : List ℕ) (d : damaged s ≡ false) {a : Answer} {u : List ℕ} where
  kept : (k : Step) → Keep k → (a, u) ≡ told s k → damaged u ≡ false
  kept k f e = ap (λ (o : Answer × List ℕ). damaged o.1) e ∙ told_sound s k d f

  pub source_in_kept : (i : ℕ) (x : Source) → length x.traffic ≡ 3 → (a, u) ≡ told s (place_source i x (book_of s)) → damaged u ≡ false
  source_in_kept i x n = kept (place_source i x (book_of s)) (source_in (book_of s) (sound_book s d) i x n)

  pub source_out_kept : (i : ℕ) → (a, u) ≡ told s (withdraw_source i (book_of s)) → damaged u ≡ false
  source_out_kept i = kept (withdraw_source i (book_of s)) (source_out (book_of s) (sound_book s d) i)

  pub receiver_in_kept : (j : ℕ) (r : Receiver) → (a, u) ≡ told s (place_receiver j r (book_of s)) → damaged u ≡ false
  receiver_in_kept j r = kept (place_receiver j r (book_of s)) (receiver_in (book_of s) (sound_book s d) j r)

  pub receiver_out_kept : (j : ℕ) → (a, u) ≡ told s (withdraw_receiver j (book_of s)) → damaged u ≡ false
  receiver_out_kept j = kept (withdraw_receiver j (book_of s)) (receiver_out (book_of s) (sound_book s d) j)

  pub wall_in_kept : (k : ℕ) (w : Wall) → (a, u) ≡ told s (place_wall k w (book_of s)) → damaged u ≡ false
  wall_in_kept k w = kept (place_wall k w (book_of s)) (wall_in (book_of s) (sound_book s d) k w)

  pub wall_out_kept : (k : ℕ) → (a, u) ≡ told s (withdraw_wall k (book_of s)) → damaged u ≡ false
  wall_out_kept k = kept (withdraw_wall k (book_of s)) (wall_out (book_of s) (sound_book s d) k)
