-- The fifth theorem: what stands decides every byte, and so a placing into a used slot leaves what a withdrawal and a placing do.
-- Assumes the laws of the store, given as a parameter.
use mathlib.Core.Path.{◌≡◌, refl, sym, ap, subst, ◌∙◌, fun_ext}
use mathlib.Core.Bool.{Bool, true, false, cond}
use mathlib.Core.Option.{Option, none, some}
use mathlib.Core.List.{List, ◌∷◌, map}
use Prim.Native.Nat.{ℕ}
use lib.Dec.{eqb}
use lib.ListN.{set}
use lib.Seq.{set-set}
use Rattle.screen.specs.declared.Wall.{Wall}
use Rattle.store.specs.Store.{book_bytes, source_slots, receiver_slots, wall_slots}
use Rattle.ledger.specs.Lists.{present}
use Rattle.history.specs.History.{Call, store_after, answer_to, Real, RealCall, accepted, kept, source_move, receiver_move, wall_move, Move, enter, leave, last_at, in_slots}
use Rattle.history.specs.History.{standing_source, standing_receiver, standing_wall, AllHear, Rule, Placing, source, receiver, wall, as_call}
use Rattle.history.specs.History.{SameStands, emptying, InOneCall}
use Rattle.history.proofs.Slots.{slots_moved}
use Rattle.history.proofs.Filled.{fill}
use Rattle.history.proofs.Laws.{StoreLaws}
use Rattle.history.proofs.History.{source_after, seat_after, wall_after, sources_after, receivers_after, holds, accepts_by_rule}
use Rattle.history.proofs.Rebuild.{keeps}

-- ---- a slot that is left and entered is entered

module _ {A : Type 0} where
  left_entered : (l : List (Move A)) (i : ℕ) (a : A) (j : ℕ) → last_at (enter i a ∷ l) j ≡ last_at (enter i a ∷ leave i ∷ l) j
  unfolding last_at
  left_entered l i a j = go (eqb j i)
    where
      go : (t : Bool) → cond t (some a) (last_at l j) ≡ cond t (some a) (cond t none (last_at l j))
      go true = refl
      go false = refl

module _ (l : List Call) where
  sources_same : (k : Placing) (i : ℕ) → source_after (as_call k ∷ l) i ≡ source_after (as_call k ∷ emptying k ∷ l) i
  unfolding last_at
  sources_same (source x) i = left_entered (map source_move l) x.slot x.entry i
  sources_same (receiver x) i = refl
  sources_same (wall x) i = refl

  receivers_same : (k : Placing) (j : ℕ) → seat_after (as_call k ∷ l) j ≡ seat_after (as_call k ∷ emptying k ∷ l) j
  unfolding last_at
  receivers_same (source x) j = refl
  receivers_same (receiver x) j = left_entered (map receiver_move l) x.slot x.entry j
  receivers_same (wall x) j = refl

  walls_same : (k : Placing) (i : ℕ) → wall_after (as_call k ∷ l) i ≡ wall_after (as_call k ∷ emptying k ∷ l) i
  unfolding last_at
  walls_same (source x) i = refl
  walls_same (receiver x) i = refl
  walls_same (wall x) i = left_entered (map wall_move l) x.slot x.entry i

  -- ---- the rule of a placing asks nothing of the slot that it fills

  rule_same : (k : Placing) → Rule (wall_after (emptying k ∷ l)) (source_after (emptying k ∷ l)) (seat_after (emptying k ∷ l)) (as_call k)
      → Rule (wall_after l) (source_after l) (seat_after l) (as_call k)
  unfolding last_at
  rule_same (source x) n = n
  rule_same (receiver x) n = n
  rule_same (wall x) n =
      let e : set (in_slots wall_slots (last_at (leave x.slot ∷ map wall_move l))) x.slot (some x.entry) ≡ _ =
      ap (λ (W : List (Option Wall)). set W x.slot (some x.entry)) (sym (slots_moved wall_slots (leave x.slot) (map wall_move l)))
      ∙ set-set (in_slots wall_slots (wall_after l)) x.slot none (some x.entry) in
      (n.0, n.1, subst (λ (W : List (Option Wall)). AllHear (present W) (present (sources_after l)) (present (receivers_after l))) e n.2)

emptying_real : (k : Placing) → RealCall (emptying k)
emptying_real (source x) = tt
emptying_real (receiver x) = tt
emptying_real (wall x) = tt

module _ (laws : StoreLaws) where
  pub same_bytes : (g h : List Call) → Real g → Real h → SameStands g h → store_after g ≡ store_after h
  unfolding standing_source standing_receiver standing_wall
  same_bytes g h a b s =
      let G = holds laws g a in
      let H = holds laws h b in
      let w : wall_after (kept g) ≡ wall_after (kept h) = fun_ext s.walls in
      let c : source_after (kept g) ≡ source_after (kept h) = fun_ext s.sources in
      let r : seat_after (kept g) ≡ seat_after (kept h) = fun_ext s.receivers in
      G.bytes
      ∙ ap book_bytes (G.filled ∙ (λ i. fill (in_slots wall_slots (w i)) (in_slots source_slots (c i)) (in_slots receiver_slots (r i))) ∙ sym H.filled)
      ∙ sym H.bytes

  pub in_one_call : (h : List Call) → Real h → (k : Placing) → RealCall (as_call k)
      → accepted (answer_to h (emptying k)) ≡ true → accepted (answer_to (emptying k ∷ h) (as_call k)) ≡ true → InOneCall h k
  unfolding standing_source standing_receiver standing_wall
  in_one_call h real k ok e f =
      let l = kept h in
      let out : Real (emptying k ∷ h) = (emptying_real k, real) in
      let gone : kept (emptying k ∷ h) ≡ emptying k ∷ l = keeps (emptying k) h l refl e in
      let two : kept (as_call k ∷ emptying k ∷ h) ≡ as_call k ∷ emptying k ∷ l = keeps (as_call k) (emptying k ∷ h) (emptying k ∷ l) gone f in
      let rule = subst (λ m. Rule (wall_after m) (source_after m) (seat_after m) (as_call k)) gone ((accepts_by_rule laws (emptying k ∷ h) out (as_call k)).0 f) in
      let may = (accepts_by_rule laws h real (as_call k)).1 (rule_same l k rule) in
      let one : kept (as_call k ∷ h) ≡ as_call k ∷ l = keeps (as_call k) h l refl may in
      record {
        is_accepted = may;
        leaves = same_bytes (as_call k ∷ h) (as_call k ∷ emptying k ∷ h) (ok, real) (ok, out)
            (record {
              sources = λ i. ap (λ m. source_after m i) one ∙ sources_same l k i ∙ sym (ap (λ m. source_after m i) two);
              receivers = λ j. ap (λ m. seat_after m j) one ∙ receivers_same l k j ∙ sym (ap (λ m. seat_after m j) two);
              walls = λ i. ap (λ m. wall_after m i) one ∙ walls_same l k i ∙ sym (ap (λ m. wall_after m i) two);
            });
      }
