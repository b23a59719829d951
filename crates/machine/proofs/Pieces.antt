-- A job fed in any pieces, with any room for the texts, comes to its listing.
-- Assumes nothing.
use Prim.Native.Nat.{ℕ, zero, suc, ◌+◌, ◌≤◌, ◌<◌}
use mathlib.Core.Path.{◌≡◌, refl, sym, ap, subst, ◌∙◌}
use mathlib.Core.Logic.{◌⊎◌, inl, inr, ⊎_elim}
use mathlib.Core.Bool.{Bool, true, false, cond}
use mathlib.Core.List.{List, [], ◌∷◌, ◌++◌, append-nil, append_assoc}
use native.Mathlib.Omega.{arith}
use lib.ListN.{length, drop, length-drop, length-append}
use Rattle.layout.specs.Layout.{Bytes}
use Rattle.layout.proofs.Numbers.{bytes_append}
use Rattle.listing.specs.Listing.{line_room}
use Rattle.machine.specs.declared.State.{State}
use Rattle.machine.specs.Job.{before, ended, list_from}
use Rattle.machine.specs.Feed.{left, Fed, Feed, rests, feed_from, feed_of}
use Rattle.machine.specs.Pieces.{Work, begun, fed_once, arrives, Piece, pieces, rest, together, AllBytes, Roomy, worked, AnyPieces, JobTheorems}
use Rattle.machine.proofs.Rule.{rule, true_false, before_before, left_on, left_stopped, left_none}
use Rattle.machine.proofs.Good.{Good, good}

-- ---- one feed, by whether the job has stopped

feed_rests : (over : Bool) (x : State) (s store : List ℕ) (room : ℕ) → x.stopped ≡ true → rests x store ≡ feed_of over x s store room
unfolding feed_of
feed_rests over x s store room e = ap (λ (b : Bool). cond b (rests x store) (feed_from over room x.count s store)) (sym e)

feed_goes : (over : Bool) (x : State) (s store : List ℕ) (room : ℕ) → x.stopped ≡ false → feed_from over room x.count s store ≡ feed_of over x s store room
unfolding feed_of
feed_goes over x s store room e = ap (λ (b : Bool). cond b (rests x store) (feed_from over room x.count s store)) (sym e)

good_goes : (over : Bool) (x : State) (s store : List ℕ) (room : ℕ) → x.stopped ≡ false → Good over room x.count s store (feed_of over x s store room)
good_goes over x s store room e = subst (Good over room x.count s store) (feed_goes over x s store room e) (good over room x.count s store)

-- the text in front of what is then left is what was left
feed_fed : (over : Bool) (x : State) (s store : List ℕ) (room : ℕ)
    → Fed over x s store (feed_of over x s store room).text (feed_of over x s store room).state (drop (feed_of over x s store room).used s) (feed_of over x s store room).store
feed_fed over x s store room = go x.stopped refl
  where
    go : (b : Bool) → x.stopped ≡ b
        → Fed over x s store (feed_of over x s store room).text (feed_of over x s store room).state (drop (feed_of over x s store room).used s) (feed_of over x s store room).store
    go true e = subst (λ (f : Feed). Fed over x s store f.text f.state (drop f.used s) f.store) (feed_rests over x s store room e) (λ later b h. refl)
    go false e = λ later b h. (good_goes over x s store room e).fed later b h ∙ sym (left_on x (s ++ later) store e)

-- ---- the texts so far, in front of what is left of what is held and still to come, are the listing of all that came and is still to come

abbrev Keeps : Bool → List ℕ → List ℕ → Work → Type 0
Keeps over arrived store w =
    (later : List ℕ) → Bytes later → (over ≡ true → later ≡ [])
    → before w.text (left w.state (w.held ++ later) w.store) ≡ list_from 0 (arrived ++ later) store

keeps_begun : (store : List ℕ) → Keeps false [] store (begun store)
keeps_begun store later b h = left_on (record { count = 0; stopped = false }) later store refl

keeps_fed : (over : Bool) (room : ℕ) (arrived store : List ℕ) (w : Work) → Keeps over arrived store w → Keeps over arrived store (fed_once over room w)
keeps_fed over room arrived store w k later b h =
    let f = feed_of over w.state w.held w.store room in
    before_before w.text f.text (left f.state (drop f.used w.held ++ later) f.store)
    ∙ ap (before w.text) (feed_fed over w.state w.held w.store room later b h)
    ∙ k later b h

keeps_arrives : (piece arrived store : List ℕ) (w : Work) → Bytes piece → Keeps false arrived store w → Keeps false (arrived ++ piece) store (arrives piece w)
keeps_arrives piece arrived store w y k later b h =
    ap (λ (s : List ℕ). before w.text (left w.state s w.store)) (append_assoc w.held piece later)
    ∙ k (piece ++ later) (bytes_append piece later y b) (λ e. absurd (true_false (sym e)))
    ∙ ap (λ (s : List ℕ). list_from 0 s store) (sym (append_assoc arrived piece later))

keeps_pieces : (ps : List Piece) (arrived store : List ℕ) (w : Work) → AllBytes ps → Keeps false arrived store w
    → Keeps false (arrived ++ together ps) store (pieces ps w)
keeps_pieces [] arrived store w y k = subst (λ (a : List ℕ). Keeps false a store w) (sym (append-nil arrived)) k
keeps_pieces (p ∷ ps) arrived store w y k =
    subst (λ (a : List ℕ). Keeps false a store (pieces ps (fed_once false p.room (arrives p.bytes w)))) (append_assoc arrived p.bytes (together ps))
    (keeps_pieces ps (arrived ++ p.bytes) store (fed_once false p.room (arrives p.bytes w)) y.1
    (keeps_fed false p.room (arrived ++ p.bytes) store (arrives p.bytes w) (keeps_arrives p.bytes arrived store w y.0 k)))

keeps_rest : (rooms arrived store : List ℕ) (w : Work) → Keeps true arrived store w → Keeps true arrived store (rest rooms w)
keeps_rest [] arrived store w k = k
keeps_rest (room ∷ rooms) arrived store w k = keeps_rest rooms arrived store (fed_once true room w) (keeps_fed true room arrived store w k)

-- ---- it comes to an end

-- the job has stopped, or nothing is held
abbrev Through : Work → Type 0
Through w = (w.state.stopped ≡ true) ⊎ (length w.held ≡ 0)

stays_stopped : (room : ℕ) (w : Work) → w.state.stopped ≡ true → (fed_once true room w).state.stopped ≡ true
stays_stopped room w e = ap (λ (f : Feed). f.state.stopped) (sym (feed_rests true w.state w.held w.store room e)) ∙ e

through_rest : (rooms : List ℕ) (w : Work) → Through w → Through (rest rooms w)
through_rest [] w t = t
through_rest (room ∷ rooms) w t =
    through_rest rooms (fed_once true room w)
    (⊎_elim (λ e. inl (stays_stopped room w e))
    (λ e. inr (omega (arith, e, length-drop (feed_of true w.state w.held w.store room).used w.held))) t)

-- a feed stops the job, or is through, or uses a byte
gets_on : (room : ℕ) (w : Work) → line_room ≤ room → Through (fed_once true room w) ⊎ (length (fed_once true room w).held < length w.held)
gets_on room w h = go w.state.stopped refl (feed_of true w.state w.held w.store room).state.stopped refl (feed_of true w.state w.held w.store room).used refl
  where
    go : (a : Bool) → w.state.stopped ≡ a → (b : Bool) → (feed_of true w.state w.held w.store room).state.stopped ≡ b
        → (u : ℕ) → (feed_of true w.state w.held w.store room).used ≡ u
        → Through (fed_once true room w) ⊎ (length (fed_once true room w).held < length w.held)
    go true e b q u z = inl (inl (stays_stopped room w e))
    go false e true q u z = inl (inl q)
    go false e false q zero z =
        let g = good_goes true w.state w.held w.store room e in
        let t = g.moves q z in
        let v = (g.waits q (omega arith)).0 refl in
        inl (inr (omega (arith, v, z, length-drop (feed_of true w.state w.held w.store room).used w.held)))
    go false e false q (suc u) z =
        let g = good_goes true w.state w.held w.store room e in
        inr (omega (arith, z, g.used_within, length-drop (feed_of true w.state w.held w.store room).used w.held))

ends : (rooms : List ℕ) (w : Work) → Roomy rooms → length w.held ≤ length rooms → Through (rest rooms w)
ends [] w r h = inr (omega arith)
ends (room ∷ rooms) w r h =
    ⊎_elim (through_rest rooms (fed_once true room w)) (λ l. ends rooms (fed_once true room w) r.1 (omega arith)) (gets_on room w r.0)

-- what is held is part of what came
holds_fed : (room : ℕ) (over : Bool) (w : Work) → length (fed_once over room w).held ≤ length w.held
holds_fed room over w = omega (arith, length-drop (feed_of over w.state w.held w.store room).used w.held)

holds : (ps : List Piece) (w : Work) → length (pieces ps w).held ≤ length w.held + length (together ps)
holds [] w = omega arith
holds (p ∷ ps) w =
    omega (arith, holds ps (fed_once false p.room (arrives p.bytes w)), holds_fed p.room false (arrives p.bytes w), length-append w.held p.bytes, length-append p.bytes (together ps))

through_left : (w : Work) → Through w → left w.state (w.held ++ []) w.store ≡ ended w.state.count w.store
through_left w t =
    ⊎_elim (λ e. left_stopped w.state (w.held ++ []) w.store e)
    (λ e. ap (λ (s : List ℕ). left w.state s w.store) (append-nil w.held ∙ none w.held e) ∙ left_none w.state w.store) t
  where
    none : (s : List ℕ) → length s ≡ 0 → s ≡ []
    none [] e = refl
    none (x ∷ s) e = absurd (omega arith)

any_pieces : AnyPieces
any_pieces ps rooms store y r h =
    let w = worked ps rooms store in
    let k : Keeps true (together ps) store (pieces ps (begun store)) =
    λ later b q. keeps_pieces ps [] store (begun store) y (keeps_begun store) later b (λ e. absurd (true_false (sym e))) in
    ap (before w.text) (sym (through_left w (ends rooms (pieces ps (begun store)) r (omega (arith, holds ps (begun store))))))
    ∙ keeps_rest rooms (together ps) store (pieces ps (begun store)) k [] (λ i. omega arith) (λ e. refl)
    ∙ ap (λ (s : List ℕ). list_from 0 s store) (append-nil (together ps))

pub of_this_machine : JobTheorems
of_this_machine = record { rule = rule; any_pieces = any_pieces }
