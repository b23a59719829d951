-- One feed, record after record: what the records so far have printed, in front of what the rest will leave, is what all of them leave.
-- Assumes nothing.
use Prim.Native.Nat.{ℕ, zero, suc, ◌+◌, ◌-◌, ◌≤◌, ◌<◌}
use mathlib.Core.Path.{◌≡◌, refl, sym, ap, ap₂, ◌∙◌}
use mathlib.Core.Bool.{Bool, true, false, cond}
use mathlib.Core.List.{List, [], ◌∷◌, ◌++◌, append-nil, append_assoc}
use native.Mathlib.Omega.{arith}
use lib.ListN.{length, take, drop, length-append, length-drop, take-append-drop}
use lib.Seq.{drop_at, drop-drop, length-take-le}
use Rattle.layout.specs.Over.{over}
use Rattle.store.specs.Store.{damaged}
use Rattle.service.specs.Service.{done_to}
use Rattle.listing.specs.Listing.{line_of}
use Rattle.machine.specs.declared.State.{State}
use Rattle.machine.specs.declared.Entry.{Entry}
use Rattle.machine.specs.Feed.{ready, Feed, rests, waiting, halted, after, halt_or, feed_in, feed_from, feed_of, leaves}
use Rattle.machine.specs.Inner.{Entered}
use Rattle.machine.proofs.Rule.{true_false}
use Rattle.machine.proofs.Lines.{front_longer}

-- ---- the feed without turns

feed_turns : (a b : ℕ) (over : Bool) (room n : ℕ) (s store : List ℕ) → length s ≤ a → length s ≤ b
    → feed_in a over room n s store ≡ feed_in b over room n s store
unfolding feed_in
feed_turns zero zero over room n s store h l = refl
feed_turns zero (suc b) over room n [] store h l = refl
feed_turns (suc a) zero over room n [] store h l = refl
feed_turns (suc a) (suc b) over room n [] store h l = refl
feed_turns zero (suc b) over room n (x ∷ s) store h l = absurd (omega arith)
feed_turns (suc a) zero over room n (x ∷ s) store h l = absurd (omega arith)
feed_turns (suc a) (suc b) over room n (x ∷ s) store h l =
    let line = line_of (n + 1) (done_to (x ∷ s) store).0.outcome in
    ap (λ (f : Feed). cond (ready over (length (x ∷ s)) room) (after line (done_to (x ∷ s) store).0.extent f) (waiting n store))
    (go (room - length line) (done_to (x ∷ s) store).0.extent (done_to (x ∷ s) store).1 (λ r t u k. feed_turns a b over r (n + 1) t u (omega arith) (omega arith)))
  where
    go : (r e : ℕ) (u : List ℕ) → ((r : ℕ) (t u : List ℕ) → length t ≤ length s → feed_in a over r (n + 1) t u ≡ feed_in b over r (n + 1) t u)
        → halt_or e (halted (n + 1) u) (feed_in a over r (n + 1) (drop e (x ∷ s)) u) ≡ halt_or e (halted (n + 1) u) (feed_in b over r (n + 1) (drop e (x ∷ s)) u)
    go r zero u f = refl
    go r (suc e) u f = f r (drop e s) u (omega (arith, length-drop e s))

-- a feed waits where no record is ready
pub feed_waits : (over : Bool) (room n : ℕ) (s store : List ℕ) → ready over (length s) room ≡ false → feed_from over room n s store ≡ waiting n store
unfolding feed_from feed_in
feed_waits over room n [] store e = refl
feed_waits over room n (b ∷ s) store e =
    ap (λ (t : Bool). cond t
    (after (line_of (n + 1) (done_to (b ∷ s) store).0.outcome) (done_to (b ∷ s) store).0.extent
    (halt_or (done_to (b ∷ s) store).0.extent (halted (n + 1) (done_to (b ∷ s) store).1)
    (feed_in (length s) over (room - length (line_of (n + 1) (done_to (b ∷ s) store).0.outcome)) (n + 1) (drop (done_to (b ∷ s) store).0.extent (b ∷ s)) (done_to (b ∷ s) store).1)))
    (waiting n store)) e

-- else the next record is done; then it stops, or the rest is fed
pub feed_rule : (over : Bool) (room n : ℕ) (s store : List ℕ) (line : List ℕ) → line ≡ line_of (n + 1) (done_to s store).0.outcome
    → ready over (length s) room ≡ true
    → feed_from over room n s store ≡ after line (done_to s store).0.extent (halt_or (done_to s store).0.extent (halted (n + 1) (done_to s store).1)
    (feed_from over (room - length line) (n + 1) (drop (done_to s store).0.extent s) (done_to s store).1))
unfolding feed_from feed_in
feed_rule over room n [] store line q e = absurd (true_false (sym e))
feed_rule over room n (b ∷ s) store line q e =
    ap (λ (t : Bool). cond t
    (after (line_of (n + 1) (done_to (b ∷ s) store).0.outcome) (done_to (b ∷ s) store).0.extent
    (halt_or (done_to (b ∷ s) store).0.extent (halted (n + 1) (done_to (b ∷ s) store).1)
    (feed_in (length s) over (room - length (line_of (n + 1) (done_to (b ∷ s) store).0.outcome)) (n + 1) (drop (done_to (b ∷ s) store).0.extent (b ∷ s)) (done_to (b ∷ s) store).1)))
    (waiting n store)) e
    ∙ ap (λ (l : List ℕ). after l (done_to (b ∷ s) store).0.extent
    (halt_or (done_to (b ∷ s) store).0.extent (halted (n + 1) (done_to (b ∷ s) store).1)
    (feed_in (length s) over (room - length l) (n + 1) (drop (done_to (b ∷ s) store).0.extent (b ∷ s)) (done_to (b ∷ s) store).1))) (sym q)
    ∙ ap (after line (done_to (b ∷ s) store).0.extent) (go (done_to (b ∷ s) store).0.extent (done_to (b ∷ s) store).1)
  where
    go : (e : ℕ) (u : List ℕ) → halt_or e (halted (n + 1) u) (feed_in (length s) over (room - length line) (n + 1) (drop e (b ∷ s)) u)
        ≡ halt_or e (halted (n + 1) u) (feed_in (length (drop e (b ∷ s))) over (room - length line) (n + 1) (drop e (b ∷ s)) u)
    go zero u = refl
    go (suc e) u = feed_turns (length s) (length (drop e s)) over (room - length line) (n + 1) (drop e s) u (omega (arith, length-drop e s)) (omega arith)

pub halt_zero : (e : ℕ) (a b : Feed) → e ≡ 0 → halt_or e a b ≡ a
halt_zero zero a b z = refl
halt_zero (suc e) a b z = absurd (omega arith)

pub halt_more : (e : ℕ) (a b : Feed) → 0 < e → halt_or e a b ≡ b
halt_more zero a b z = absurd (omega arith)
halt_more (suc e) a b z = refl

after_after : (t u : List ℕ) (a b : ℕ) (f : Feed) → after t a (after u b f) ≡ after (t ++ u) (a + b) f
after_after t u a b f =
    let e : a + (b + f.used) ≡ a + b + f.used = omega arith in
    let g : t ++ (u ++ f.text) ≡ (t ++ u) ++ f.text = sym (append_assoc t u f.text) in
    λ i. record { state = f.state; used = e i; store = f.store; text = g i }

-- what the code leaves
leaves_is : (f : Feed) (x : State) (store text : List ℕ) (used wrote : ℕ) (out with : List ℕ) → after text used (rests x store) ≡ f
    → length text ≡ wrote → with ≡ text ++ drop wrote out
    → (record { count = x.count; stopped = x.stopped; used = used; wrote = wrote }, store, with) ≡ leaves f out
unfolding leaves
leaves_is f x store text used wrote out with e l w =
    let u : used ≡ used + 0 = omega arith in
    let t : text ≡ text ++ [] = sym (append-nil text) in
    let n : wrote ≡ length (text ++ []) = sym l ∙ ap length t in
    let o : with ≡ (text ++ []) ++ drop (length (text ++ [])) out = w ∙ ap₂ (λ (a : List ℕ) (b : ℕ). a ++ drop b out) t n in
    (λ i. (record { count = x.count; stopped = x.stopped; used = u i; wrote = n i }, store, o i))
    ∙ ap (λ (g : Feed). leaves g out) e

front_stays : (out : List ℕ) (wrote : ℕ) → out ≡ take wrote out ++ drop wrote out
front_stays out wrote = sym (take-append-drop wrote out)

-- ---- records one after the other

pub record Going (over : Bool) (n : ℕ) (held store₀ out₀ store out : List ℕ) (used wrote count : ℕ) : Type 0 where
  pub used_within : used ≤ length held
  pub wrote_within : wrote ≤ length out
  pub size : length out ≡ length out₀
  pub count_within : count ≤ n + used
  pub sound : damaged store ≡ false
  pub past : drop wrote out ≡ drop wrote out₀
  pub same : after (take wrote out) used (feed_from over (length out - wrote) count (drop used held) store) ≡ feed_from over (length out₀) n held store₀

pub going_begun : (over : Bool) (n : ℕ) (held store out : List ℕ) → damaged store ≡ false → Going over n held store out store out 0 0 n
going_begun over n held store out d =
    let f = feed_from over (length out) n held store in
    let e : length out - 0 ≡ length out = omega arith in
    let q : 0 + f.used ≡ f.used = omega arith in
    record {
      used_within = omega arith;
      wrote_within = omega arith;
      size = refl;
      count_within = omega arith;
      sound = d;
      past = refl;
      same =
          ap (λ (r : ℕ). after [] 0 (feed_from over r n held store)) e
          ∙ (λ i. record { state = f.state; used = q i; store = f.store; text = f.text });
    }

module _ (over : Bool) (n : ℕ) (held store₀ out₀ store out : List ℕ) (used wrote count : ℕ)
    (g : Going over n held store₀ out₀ store out used wrote count) where
  ready_here : (b : Bool) → ready over (length held - used) (length out - wrote) ≡ b → ready over (length (drop used held)) (length out - wrote) ≡ b
  ready_here b e = ap (λ (k : ℕ). ready over k (length out - wrote)) (length-drop used held) ∙ e

  -- the feed of a job that has not stopped
  goes : (x : State) → x.count ≡ n → x.stopped ≡ false → feed_from over (length out₀) n held store₀ ≡ feed_of over x held store₀ (length out₀)
  unfolding feed_of
  goes x y v = ap₂ (λ (b : Bool) (j : ℕ). cond b (rests x store₀) (feed_from over (length out₀) j held store₀)) (sym v) (sym y)

  pub going_paused : (x : State) → x.count ≡ n → x.stopped ≡ false → ready over (length held - used) (length out - wrote) ≡ false
      → (record { count = count; stopped = false; used = used; wrote = wrote }, store, out) ≡ leaves (feed_of over x held store₀ (length out₀)) out₀
  going_paused x y v e =
      leaves_is (feed_of over x held store₀ (length out₀)) (record { count = count; stopped = false }) store (take wrote out) used wrote out₀ out
      (ap (after (take wrote out) used) (sym (feed_waits over (length out - wrote) count (drop used held) store (ready_here false e)))
      ∙ g.same
      ∙ goes x y v)
      (length-take-le wrote out g.wrote_within) (front_stays out wrote ∙ ap (λ (l : List ℕ). take wrote out ++ l) g.past)

  module _ (r : Entry) (rest with : List ℕ)
      (e : Entered wrote (count + 1) (drop used held) (done_to (drop used held) store) out r rest with)
      (k : length with ≡ length out) (w : ready over (length held - used) (length out - wrote) ≡ true) where
    line : List ℕ
    line = line_of (count + 1) (done_to (drop used held) store).0.outcome

    rule_here : feed_from over (length out - wrote) count (drop used held) store
        ≡ after line (done_to (drop used held) store).0.extent
        (halt_or (done_to (drop used held) store).0.extent (halted (count + 1) (done_to (drop used held) store).1)
        (feed_from over (length out - wrote - length line) (count + 1)
        (drop (done_to (drop used held) store).0.extent (drop used held)) (done_to (drop used held) store).1))
    unfolding line
    rule_here = feed_rule over (length out - wrote) count (drop used held) store _ refl (ready_here true w)

    front : take r.wrote with ≡ take wrote out ++ line
    unfolding line
    front = front_longer out with line wrote r.wrote g.wrote_within e.line

    next_is : r.wrote ≡ wrote + length line
    unfolding line
    next_is = e.line.next_is

    past_here : drop r.wrote with ≡ drop r.wrote out₀
    unfolding over line
    past_here =
        let l : length (take wrote out) ≡ wrote = length-take-le wrote out g.wrote_within in
        ap (drop r.wrote) (e.line.with_is ∙ sym (append_assoc (take wrote out) line (drop (wrote + length line) out)))
        ∙ drop_at (take wrote out ++ line) (drop (wrote + length line) out) r.wrote (length-append (take wrote out) line ∙ omega (arith, l, next_is))
        ∙ sym (drop-drop (length line) wrote out) ∙ ap (drop (length line)) g.past ∙ drop-drop (length line) wrote out₀
        ∙ ap (λ (j : ℕ). drop j out₀) (sym next_is)

    -- one record more, and then f
    more : (f : Feed) → halt_or (done_to (drop used held) store).0.extent (halted (count + 1) (done_to (drop used held) store).1)
        (feed_from over (length out - wrote - length line) (count + 1)
        (drop (done_to (drop used held) store).0.extent (drop used held)) (done_to (drop used held) store).1) ≡ f
        → after (take r.wrote with) (used + r.extent) f ≡ feed_from over (length out₀) n held store₀
    more f q =
        ap₂ (λ (t : List ℕ) (j : ℕ). after t (used + j) f) front e.extent
        ∙ sym (after_after (take wrote out) line used (done_to (drop used held) store).0.extent f)
        ∙ ap (after (take wrote out) used)
        (ap (after line (done_to (drop used held) store).0.extent) (sym q) ∙ sym rule_here)
        ∙ g.same

    pub going_on : (r.extent ≡ 0 → ⊥) → Going over n held store₀ out₀ rest with (used + r.extent) r.wrote (count + 1)
    going_on z =
        let j : length with - r.wrote ≡ length out - wrote - length line = omega (arith, next_is) in
        let a : drop (used + r.extent) held ≡ drop (done_to (drop used held) store).0.extent (drop used held) =
        ap (λ (j : ℕ). drop (used + j) held) e.extent ∙ sym (drop-drop (done_to (drop used held) store).0.extent used held) in
        record {
          used_within = omega (arith, e.extent_within, length-drop used held, g.used_within);
          wrote_within = omega (arith, e.line.within);
          size = k ∙ g.size;
          count_within = omega (arith, g.count_within, z);
          sound = e.left_sound;
          past = past_here;
          same =
              more (feed_from over (length with - r.wrote) (count + 1) (drop (used + r.extent) held) rest)
              (halt_more (done_to (drop used held) store).0.extent _ _ (omega (arith, e.extent, z))
              ∙ (λ i. feed_from over (sym j i) (count + 1) (sym a i) (sym e.left_is i)));
        }

    pub going_stopped : (x : State) → x.count ≡ n → x.stopped ≡ false → r.extent ≡ 0
        → (record { count = count + 1; stopped = true; used = used; wrote = r.wrote }, rest, with) ≡ leaves (feed_of over x held store₀ (length out₀)) out₀
    going_stopped x y v z =
        let u : used ≡ used + r.extent = omega (arith, z) in
        leaves_is (feed_of over x held store₀ (length out₀)) (record { count = count + 1; stopped = true }) rest (take r.wrote with) used r.wrote out₀ with
        (ap (λ (j : ℕ). after (take r.wrote with) j (halted (count + 1) rest)) u
        ∙ more (halted (count + 1) rest)
        (halt_zero (done_to (drop used held) store).0.extent _ _ (sym e.extent ∙ z) ∙ ap (halted (count + 1)) (sym e.left_is))
        ∙ goes x y v)
        (length-take-le r.wrote with (omega (arith, e.line.within))) (front_stays with r.wrote ∙ ap (λ (l : List ℕ). take r.wrote with ++ l) past_here)

-- a job that has stopped stays so
pub feed_stopped : (over : Bool) (x : State) (held store out : List ℕ) → x.stopped ≡ true
    → (record { count = x.count; stopped = true; used = 0; wrote = 0 }, store, out) ≡ leaves (feed_of over x held store (length out)) out
unfolding feed_of
feed_stopped over x held store out e =
    (λ i. (record { count = x.count; stopped = sym e i; used = 0; wrote = 0 }, store, out))
    ∙ leaves_is (feed_of over x held store (length out)) x store [] 0 0 out out
    (ap (λ (b : Bool). cond b (rests x store) (feed_from over (length out) x.count held store)) (sym e)) refl refl
