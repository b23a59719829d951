-- After every history the store is undamaged, its book is filled with what stands, and what stands decides the next answer: theorems one to three.
-- Assumes the laws of the store, given as a parameter.
use Rattle.std.specs.Prelude.{Ok, Err}
use mathlib.Core.Path.{◌≡◌, refl, sym, ap, ap₂, subst, subst₂, ◌∙◌}
use mathlib.Core.Logic.{◌≢◌, ◌↔◌}
use mathlib.Core.Bool.{Bool, true, false, cond, not, ◌||◌}
use mathlib.Core.Option.{Option, none, some}
use mathlib.Core.List.{List, [], ◌∷◌, ◌++◌, map}
use Prim.Native.Nat.{ℕ}
use native.Mathlib.Omega.{arith}
use lib.Dec.{eqb}
use lib.ListN.{length, get_or, replicate, length-replicate}
use Rattle.answer.specs.declared.Refusal.TheVariants.{Damaged}
use Rattle.answer.proofs.Laws.{one_is_damage, never_done}
use Rattle.answer.specs.Settled.{Agree}
use Rattle.answer.proofs.Settled.{settled}
use Rattle.screen.specs.declared.Wall.{Wall}
use Rattle.road.specs.declared.Source.{Source}
use Rattle.road.specs.declared.Receiver.{Receiver}
use Rattle.store.specs.declared.Held.{Held}
use Rattle.store.specs.Store.{Book, damaged, book_of, book_bytes, store_length, cleared_bytes, empty_book, book, source_slots, receiver_slots, wall_slots}
use Rattle.store.specs.Store.{SourceStands, WallStands, SoundBook}
use Rattle.calls.specs.Calls.{Answer}
use Rattle.calls.specs.declared.Reply.TheVariants.{Done, Levels}
use Rattle.road.specs.Reach.{pair_of}
use Rattle.ledger.specs.Lists.{omap, present, weigh}
use Rattle.calls.specs.Calls.{number_in, Step, refuse, tell, change, told, on_store, clear_store, place_source, withdraw_source}
use Rattle.calls.specs.Calls.{place_receiver, withdraw_receiver, place_wall, withdraw_wall, ask_receiver}
use Rattle.calls.proofs.Sums.{HearsAll, never}
use Rattle.history.specs.History.{Call, Clear, PlaceSource, WithdrawSource, PlaceReceiver, WithdrawReceiver, PlaceWall, WithdrawWall, Ask, perform}
use Rattle.history.specs.History.{store_after, RealCall, answer_to, Real, accepted, kept, source_move, receiver_move, wall_move, all_leave, last_at, in_slots}
use Rattle.history.specs.History.{standing_source, standing_receiver, standing_wall, standing_sources, standing_receivers, standing_walls, SumsOf, HoldsWhatStands, NeverLate, Rule, AcceptsByRule}
use Rattle.history.proofs.Slots.{all_none, omap_none, slots_moved, slots_none}
use Rattle.history.proofs.Filled.{fill, ReceiverStands, Standing, fill_at, standing_sound, Next, Leads, place_source_lem, withdraw_source_lem}
use Rattle.history.proofs.Filled.{place_receiver_lem, withdraw_receiver_lem, place_wall_lem, withdraw_wall_lem, ask_receiver_lem, ask_tells}
use Rattle.history.proofs.Laws.{StoreLaws}

-- ---- for any bytes: a contract that gives the outcome settles it, and a refused call leaves all as it was

pub calls_agree : (c : Call) (b : List ℕ) → Agree (λ (o : Answer × List ℕ). o) (λ (o : Answer × List ℕ). o ≡ perform c b)
calls_agree c b = settled (λ (o : Answer × List ℕ). o) (perform c b)

-- ---- answers by their numbers

pub accepted_number : (a : Answer) → (accepted a ≡ true) ↔ (number_in a ≡ 0)
accepted_number (Ok Done) = (λ e. refl, λ e. refl)
accepted_number (Ok (Levels den night)) = (λ e. refl, λ e. refl)
accepted_number (Err r) = (λ e. never cc, λ e. absurd (never_done r e))

-- number 1 is damage
one_damaged : (a : Answer) → number_in a ≡ 1 → a ≡ Err Damaged
one_damaged (Ok Done) e = absurd (omega (arith, e))
one_damaged (Ok (Levels den night)) e = absurd (omega (arith, e))
one_damaged (Err r) e = ap Err (one_is_damage r e)

-- unless it is accepted, the store is b
abbrev Leaves : List ℕ → Answer × List ℕ → Type 0
Leaves b o = accepted o.0 ≡ false → o.1 ≡ b

either_leaves : (b : List ℕ) (t : Bool) (o p : Answer × List ℕ) → Leaves b o → Leaves b p → Leaves b (cond t o p)
either_leaves b true o p x y = x
either_leaves b false o p x y = y

told_leaves : (b : List ℕ) (x : Step) → Leaves b (told b x)
told_leaves b (refuse r) e = refl
told_leaves b (tell a) e = refl
told_leaves b (change x) e = never cc

step_leaves : (f : Book → Step) (b : List ℕ) → Leaves b (on_store f b)
unfolding on_store
step_leaves f b = either_leaves b (damaged b) _ _ (λ e. refl) (told_leaves b (f (book_of b)))

clear_leaves : (b : List ℕ) → Leaves b (clear_store b)
unfolding clear_store
clear_leaves b = either_leaves b (eqb (length b) store_length) _ _ (λ e. never cc) (λ e. refl)

pub refused_leaves : (c : Call) (b : List ℕ) → accepted (perform c b).0 ≡ false → (perform c b).1 ≡ b
refused_leaves Clear b = clear_leaves b
refused_leaves (PlaceSource i s) b = step_leaves (place_source i s) b
refused_leaves (WithdrawSource i) b = step_leaves (withdraw_source i) b
refused_leaves (PlaceReceiver j r) b = step_leaves (place_receiver j r) b
refused_leaves (WithdrawReceiver j) b = step_leaves (withdraw_receiver j) b
refused_leaves (PlaceWall k w) b = step_leaves (place_wall k w) b
refused_leaves (WithdrawWall k) b = step_leaves (withdraw_wall k) b
refused_leaves (Ask j) b = step_leaves (ask_receiver j) b

-- ---- bytes that hold what accepted calls leave

abbrev pub source_after : List Call → ℕ → Option Source
source_after k = last_at (map source_move k)

abbrev pub seat_after : List Call → ℕ → Option Receiver
seat_after k = last_at (map receiver_move k)

abbrev pub wall_after : List Call → ℕ → Option Wall
wall_after k = last_at (map wall_move k)

abbrev pub sources_after : List Call → List (Option Source)
sources_after k = in_slots source_slots (source_after k)

abbrev pub receivers_after : List Call → List (Option Receiver)
receivers_after k = in_slots receiver_slots (seat_after k)

abbrev pub walls_after : List Call → List (Option Wall)
walls_after k = in_slots wall_slots (wall_after k)

pub record Holds (b : List ℕ) (k : List Call) : Type 0 where
  pub sound : damaged b ≡ false
  pub bytes : b ≡ book_bytes (book_of b)
  pub filled : book_of b ≡ fill (walls_after k) (sources_after k) (receivers_after k)
  pub standing : Standing (walls_after k) (sources_after k) (receivers_after k)

-- what one more call, after the accepted ones k, is answered and leaves
record Fits (k : List Call) (c : Call) (o : Answer × List ℕ) : Type 0 where
  holds : RealCall c → Holds o.1 (cond (accepted o.0) (c ∷ k) k)
  sound : o.0 ≢ Err Damaged
  rule : (accepted o.0 ≡ true) ↔ Rule (wall_after k) (source_after k) (seat_after k) c

-- the slots of all three parties, as they are called elsewhere
all_standing : {W X : List (Option Wall)} {S T : List (Option Source)} {Q R : List (Option Receiver)}
    → W ≡ X → S ≡ T → Q ≡ R → Standing W S Q → Standing X T R
all_standing {X = X} {S = S} {Q = Q} w s r p = subst₂ (Standing X) s r (subst (λ l. Standing l S Q) w p)

holds_next : (b : List ℕ) (k : List Call) (c : Call) → Next (wall_after k) (source_after k) (seat_after k) c (book_of b) → damaged b ≡ false
    → b ≡ book_bytes (book_of b) → RealCall c → Holds b (c ∷ k)
holds_next b k c n e f real =
    let w = slots_moved wall_slots (wall_move c) (map wall_move k) in
    let s = slots_moved source_slots (source_move c) (map source_move k) in
    let r = slots_moved receiver_slots (receiver_move c) (map receiver_move k) in
    record { sound = e; bytes = f; filled = n.0 ∙ (λ i. fill (w i) (s i) (r i)); standing = all_standing w s r (n.1 real) }

pub on_store_lem : (f : Book → Step) (b : List ℕ) (x : Book) → damaged b ≡ false → book_of b ≡ x → on_store f b ≡ told b (f x)
unfolding on_store
on_store_lem f b x d e = ap₂ (λ t y. cond t (Err Damaged, b) (told b (f y))) d e

sound_length : (b : List ℕ) → damaged b ≡ false → eqb (length b) store_length ≡ true
unfolding damaged
sound_length b = go (eqb (length b) store_length) _
  where
    go : (t u : Bool) → not t || u ≡ false → t ≡ true
    go true u e = refl
    go false u e = never cc

nobody : Standing (replicate wall_slots none) (replicate source_slots none) (replicate receiver_slots none)
nobody = record {
  wall_slots_lem = length-replicate wall_slots none;
  source_slots_lem = length-replicate source_slots none;
  seats = length-replicate receiver_slots none;
  walls = all_none WallStands wall_slots;
  sources = all_none SourceStands source_slots;
  receivers = all_none ReceiverStands receiver_slots;
  heard = all_none (HearsAll (pair_of (present (replicate wall_slots none))) (present (replicate source_slots none))) receiver_slots;
}

empty_filled : empty_book ≡ fill (replicate wall_slots none) (replicate source_slots none) (replicate receiver_slots none)
empty_filled =
    ap (λ rs. book (replicate source_slots none) rs (replicate wall_slots none))
    (sym (omap_none (weigh (pair_of (present (replicate wall_slots none))) (present (replicate source_slots none))) receiver_slots))

-- ---- what stands is what the slots hold

pub standing_sources_lem : (h : List Call) → standing_sources h ≡ present (sources_after (kept h))
unfolding standing_sources standing_source
standing_sources_lem h = refl

pub standing_receivers_lem : (h : List Call) → standing_receivers h ≡ present (receivers_after (kept h))
unfolding standing_receivers standing_receiver
standing_receivers_lem h = refl

pub standing_walls_lem : (h : List Call) → standing_walls h ≡ present (walls_after (kept h))
unfolding standing_walls standing_wall
standing_walls_lem h = refl

module _ (laws : StoreLaws) where
  holds_cleared : (k : List Call) → replicate wall_slots none ≡ walls_after k → replicate source_slots none ≡ sources_after k
      → replicate receiver_slots none ≡ receivers_after k → Holds cleared_bytes k
  holds_cleared k w s r = record {
    sound = laws.cleared_sound;
    bytes = laws.cleared_bytes_lem;
    filled = laws.cleared_book ∙ empty_filled ∙ (λ i. fill (w i) (s i) (r i));
    standing = all_standing w s r nobody;
  }

  fits_told : (b : List ℕ) (k : List Call) (c : Call) → Holds b k → (x : Step) → Leads (wall_after k) (source_after k) (seat_after k) c x → Fits k c (told b x)
  fits_told b k c H (refuse r) p = record {
    holds = λ real. H;
    sound = λ e. p.0 (let q : r ≡ Damaged = cc in q);
    rule = (λ e. never cc, λ n. absurd (p.1 n));
  }
  fits_told b k c H (tell a) p =
      let t = p.1.0 in
      record {
        holds = λ real. rw t (holds_next b k c (H.filled ∙ p.1.1.0, p.1.1.1) H.sound H.bytes real);
        sound = λ e. let y : false ≡ true = ap accepted (sym e) ∙ t in never cc;
        rule = (λ e. p.0, λ n. t);
      }
  fits_told b k c H (change x) p = record {
    holds = λ real.
        let ok : SoundBook x = subst SoundBook (sym p.1.0) (standing_sound _ _ _ (p.1.1 real)) in
        holds_next (book_bytes x) k c (laws.book_back x ok ∙ p.1.0, p.1.1) (laws.book_sound x ok) (ap book_bytes (sym (laws.book_back x ok))) real;
    sound = λ e. never cc;
    rule = (λ e. p.0, λ n. refl);
  }

  fits_step : (b : List ℕ) (k : List Call) (c : Call) → Holds b k → (f : Book → Step)
      → Leads (wall_after k) (source_after k) (seat_after k) c (f (fill (walls_after k) (sources_after k) (receivers_after k))) → Fits k c (on_store f b)
  fits_step b k c H f p =
      subst (Fits k c) (sym (on_store_lem f b _ H.sound H.filled)) (fits_told b k c H (f (fill (walls_after k) (sources_after k) (receivers_after k))) p)

  fits : (b : List ℕ) (k : List Call) → Holds b k → (c : Call) → Fits k c (perform c b)
  unfolding clear_store
  fits b k H Clear =
      let w = slots_moved wall_slots all_leave (map wall_move k) in
      let s = slots_moved source_slots all_leave (map source_move k) in
      let r = slots_moved receiver_slots all_leave (map receiver_move k) in
      rw (sound_length b H.sound)
      (record { holds = λ real. holds_cleared (Clear ∷ k) w s r; sound = λ e. never cc; rule = (λ e. tt, λ n. refl) })
  fits b k H (PlaceSource i s) = fits_step b k (PlaceSource i s) H (place_source i s) (place_source_lem _ _ _ i s H.standing)
  fits b k H (WithdrawSource i) = fits_step b k (WithdrawSource i) H (withdraw_source i) (withdraw_source_lem _ _ _ i H.standing)
  fits b k H (PlaceReceiver j r) = fits_step b k (PlaceReceiver j r) H (place_receiver j r) (place_receiver_lem _ _ _ j r H.standing)
  fits b k H (WithdrawReceiver j) = fits_step b k (WithdrawReceiver j) H (withdraw_receiver j) (withdraw_receiver_lem _ _ _ j H.standing)
  fits b k H (PlaceWall i w) = fits_step b k (PlaceWall i w) H (place_wall i w) (place_wall_lem _ _ _ i w H.standing)
  fits b k H (WithdrawWall i) = fits_step b k (WithdrawWall i) H (withdraw_wall i) (withdraw_wall_lem _ _ _ i H.standing)
  fits b k H (Ask j) = fits_step b k (Ask j) H (ask_receiver j) (ask_receiver_lem _ _ _ j H.standing)

  -- ---- after every history

  pub holds : (h : List Call) → Real h → Holds (store_after h) (kept h)
  unfolding store_after kept
  holds [] real = holds_cleared [] (slots_none wall_slots) (slots_none source_slots) (slots_none receiver_slots)
  holds (c ∷ h) real = (fits (store_after h) (kept h) (holds h real.1) c).holds real.0

  pub clear_forgets : (h : List Call) → Real h → (since : List Call) → store_after (since ++ Clear ∷ h) ≡ store_after since
  unfolding store_after clear_store
  clear_forgets h real [] =
      ap (λ t. (cond {A = Answer × List ℕ} t (Ok Done, cleared_bytes) (Err Damaged, store_after h)).1) (sound_length (store_after h) (holds h real).sound)
  clear_forgets h real (c ∷ since) = ap (λ b. (perform c b).1) (clear_forgets h real since)

  pub never_late : (h : List Call) → Real h → NeverLate h
  never_late h real c e = (fits (store_after h) (kept h) (holds h real) c).sound (one_damaged (answer_to h c) e)

  pub accepts_by_rule : (h : List Call) → Real h → AcceptsByRule h
  unfolding standing_source standing_receiver standing_wall
  accepts_by_rule h real c = (fits (store_after h) (kept h) (holds h real) c).rule

  pub holds_what_stands : (h : List Call) → Real h → HoldsWhatStands h
  unfolding standing_source standing_receiver standing_wall standing_sources standing_walls
  holds_what_stands h real =
      let H = holds h real in
      let W = walls_after (kept h) in
      let S = sources_after (kept h) in
      let R = receivers_after (kept h) in
      record {
        undamaged = H.sound;
        sources = ap (λ (b : Book). b.sources) H.filled;
        receivers = ap (λ (b : Book). map (omap (λ x. x.who)) b.receivers) H.filled ∙ who R;
        walls = ap (λ (b : Book). b.walls) H.filled;
        sums = λ j x e. same (get_or R j none) x (sym (fill_at W S R j) ∙ sym (ap (λ (b : Book). get_or b.receivers j none) H.filled) ∙ e);
        levels = λ j r q e.
            ap (λ (o : Answer × List ℕ). o.0)
            (on_store_lem (ask_receiver j) (store_after h) (fill W S R) H.sound H.filled
            ∙ ap (told (store_after h)) (ask_tells (wall_after (kept h)) (source_after (kept h)) (seat_after (kept h)) j r q e));
      }
    where
      who : (l : List (Option Receiver)) → map (omap (λ x. x.who)) (map (omap (weigh (pair_of (standing_walls h)) (standing_sources h))) l) ≡ l
      who [] = refl
      who (none ∷ l) = ap (λ (t : List (Option Receiver)). none ∷ t) (who l)
      who (some r ∷ l) = ap (λ (t : List (Option Receiver)). some r ∷ t) (who l)

      same : (o : Option Receiver) (x : Held) → omap (weigh (pair_of (standing_walls h)) (standing_sources h)) o ≡ some x
          → SumsOf (standing_walls h) (standing_sources h) x
      same none x e = never cc
      same (some r) x e =
          let q : weigh (pair_of (standing_walls h)) (standing_sources h) r ≡ x = cc in
          subst (SumsOf (standing_walls h) (standing_sources h)) q (record { day = refl; evening = refl; night = refl })
