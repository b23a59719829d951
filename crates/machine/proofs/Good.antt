-- What a feed is for: the text that it hands out, in front of what is then left, is what was left, whatever comes later.
-- Assumes nothing.
use Prim.Native.Nat.{ℕ, zero, suc, ◌+◌, ◌-◌, ◌≤◌, ◌<◌}
use mathlib.Core.Path.{◌≡◌, refl, sym, ap, ap₂, ◌∙◌, subst}
use mathlib.Core.Bool.{Bool, true, false, cond, ◌&&◌, ◌||◌}
use mathlib.Core.List.{List, [], ◌++◌, append-nil}
use native.Mathlib.Omega.{arith}
use borrow.Author.Tests.{ltb-true, ltb-false, le-leb, leb-true, leb-false}
use lib.Dec.{ltb, leb}
use lib.ListN.{length, drop, length-append, length-drop}
use lib.Seq.{take-append_seam, drop-drop, drop-append-le}
use Rattle.layout.specs.Layout.{Bytes}
use Rattle.request.specs.Kinds.{longest_record}
use Rattle.service.specs.declared.Deed.{Deed}
use Rattle.service.specs.Service.{done_to}
use Rattle.service.proofs.Laws.{goes_within}
use Rattle.service.proofs.Own.{own_longest}
use Rattle.listing.specs.Listing.{line_room, line_of}
use Rattle.machine.specs.declared.State.{State}
use Rattle.machine.specs.declared.Progress.{Progress}
use Rattle.machine.specs.Job.{Listing, before, list_from}
use Rattle.machine.specs.Feed.{left, Feeds, state_of, ready, Feed, rests, waiting, halted, after, feed_from, feed_of, leaves}
use Rattle.machine.proofs.Rule.{true_false, before_before, left_on, left_stopped, rule_stop, rule_on}
use Rattle.machine.proofs.Feeding.{feed_waits, feed_rule, halt_zero, halt_more}

-- ---- a record that is ready

-- nothing follows, or the longest record is there
abbrev Sure : Bool → ℕ → Type 0
Sure over size = over ≡ false → longest_record ≤ size

pub ready_parts : (over : Bool) (size room : ℕ) → ready over size room ≡ true → (0 < size) × (line_room ≤ room) × Sure over size
ready_parts over size room e = go (ltb 0 size) (leb line_room room) over refl refl e
  where
    whole : (o : Bool) → o || leb longest_record size ≡ true → Sure o size
    whole true q f = absurd (true_false f)
    whole false q f = leb-true longest_record size q

    go : (a b o : Bool) → ltb 0 size ≡ a → leb line_room room ≡ b → (a && b) && (o || leb longest_record size) ≡ true → (0 < size) × (line_room ≤ room) × Sure o size
    go true true o p q z = (ltb-true 0 size p, leb-true line_room room q, whole o z)
    go true false o p q z = absurd (true_false (sym z))
    go false b o p q z = absurd (true_false (sym z))

not_ready : (over : Bool) (size room : ℕ) → ready over size room ≡ false → line_room ≤ room → (over ≡ true → size ≡ 0) × (size < longest_record)
not_ready over size room e h = go (ltb 0 size) over refl (ap (λ (b : Bool). (ltb 0 size && b) && (over || leb longest_record size)) (sym (le-leb line_room room h)) ∙ e)
  where
    go : (a o : Bool) → ltb 0 size ≡ a → (a && true) && (o || leb longest_record size) ≡ false → (o ≡ true → size ≡ 0) × (size < longest_record)
    go true true p z = absurd (true_false z)
    go true false p z = (λ y. absurd (true_false (sym y)), leb-false longest_record size z)
    go false o p z = (λ y. omega (arith, ltb-false 0 size p), omega (arith, ltb-false 0 size p))

-- it does the same whatever follows
surely : (over : Bool) (s later store : List ℕ) → 0 < length s → Sure over (length s) → Bytes later → (over ≡ true → later ≡ [])
    → done_to (s ++ later) store ≡ done_to s store
surely true s later store h e b f = ap (λ (l : List ℕ). done_to (s ++ l) store) (f refl) ∙ ap (λ (l : List ℕ). done_to l store) (append-nil s)
surely false s later store h e b f = own_longest s later store b h (e refl)

longer : (s t : List ℕ) → 0 < length s → 0 < length (s ++ t)
longer s t h = omega (arith, length-append s t)

-- ---- of what a feed leaves

pub record Good (over : Bool) (room n : ℕ) (s store : List ℕ) (f : Feed) : Type 0 where
  pub used_within : f.used ≤ length s
  pub count_within : f.state.count ≤ n + length s
  pub fed : (later : List ℕ) → Bytes later → (over ≡ true → later ≡ [])
      → before f.text (left f.state (drop f.used s ++ later) f.store) ≡ list_from n (s ++ later) store
  pub waits : f.state.stopped ≡ false → length f.text + line_room ≤ room → (over ≡ true → f.used ≡ length s) × (length s - f.used < longest_record)
  pub moves : f.state.stopped ≡ false → f.used ≡ 0 → length f.text ≡ 0

good_waiting : (over : Bool) (room n : ℕ) (s store : List ℕ) → ready over (length s) room ≡ false → Good over room n s store (waiting n store)
good_waiting over room n s store e =
    record {
      used_within = omega arith;
      count_within = omega arith;
      fed = λ later b f. left_on (record { count = n; stopped = false }) (s ++ later) store refl;
      waits = λ y h. let w = not_ready over (length s) room e (omega arith) in (λ o. let q = w.0 o in omega arith, omega (arith, w.1));
      moves = λ y z. refl;
    }

module _ (over : Bool) (room n : ℕ) (s store : List ℕ) (w : ready over (length s) room ≡ true) (d : Deed × List ℕ) (q : done_to s store ≡ d) where
  parts : (0 < length s) × (line_room ≤ room) × Sure over (length s)
  parts = ready_parts over (length s) room w

  within : d.0.extent ≤ length s
  within = omega (arith, ap (λ (x : Deed × List ℕ). x.0.extent) q, goes_within s store)

  good_halted : d.0.extent ≡ 0 → Good over room n s store (after (line_of (n + 1) d.0.outcome) d.0.extent (halted (n + 1) d.1))
  good_halted z =
      record {
        used_within = omega (arith, within);
        count_within = omega (arith, parts.0);
        fed = λ later b f.
            ap₂ (λ (t : List ℕ) (l : Listing). before t l) (append-nil (line_of (n + 1) d.0.outcome))
            (left_stopped (record { count = n + 1; stopped = true }) (drop (d.0.extent + 0) s ++ later) d.1 refl)
            ∙ sym (rule_stop n (s ++ later) store d (longer s later parts.0) (surely over s later store parts.0 parts.2 b f ∙ q) z);
        waits = λ y. absurd (true_false y);
        moves = λ y. absurd (true_false y);
      }

  good_on : 0 < d.0.extent → (f : Feed) → Good over (room - length (line_of (n + 1) d.0.outcome)) (n + 1) (drop d.0.extent s) d.1 f
      → Good over room n s store (after (line_of (n + 1) d.0.outcome) d.0.extent f)
  good_on z f g =
      let t = line_of (n + 1) d.0.outcome in
      let x = d.0.extent in
      let l : length (drop x s) ≡ length s - x = length-drop x s in
      let a : length (t ++ f.text) ≡ length t + length f.text = length-append t f.text in
      record {
        used_within = omega (arith, g.used_within, within, l);
        count_within = omega (arith, g.count_within, within, l, z);
        fed = λ later b h.
            before_before t f.text (left f.state (drop (x + f.used) s ++ later) f.store)
            ∙ ap (before t)
            (ap (λ (u : List ℕ). before f.text (left f.state (u ++ later) f.store)) (sym (drop-drop f.used x s))
            ∙ g.fed later b h
            ∙ ap (λ (u : List ℕ). list_from (n + 1) u d.1) (sym (drop-append-le x s later within)))
            ∙ sym (rule_on n (s ++ later) store d (longer s later parts.0) (surely over s later store parts.0 parts.2 b h ∙ q) z);
        waits = λ y h.
            let v = g.waits y (omega arith) in
            (λ o. let c = v.0 o in omega (arith, within), omega (arith, v.1));
        moves = λ y h. absurd (let e : ◌≡◌ {A = ℕ} 0 1 = omega (arith, z, h) in omega arith);
      }

-- by whether it waits, stops or goes on
good_by : (over : Bool) (room n : ℕ) (s store : List ℕ)
    → ((r m : ℕ) (t u : List ℕ) → length t < length s → Good over r m t u (feed_from over r m t u))
    → Good over room n s store (feed_from over room n s store)
good_by over room n s store ih = go (ready over (length s) room) refl (done_to s store).0.extent refl
  where
    go : (b : Bool) → ready over (length s) room ≡ b → (k : ℕ) → (done_to s store).0.extent ≡ k → Good over room n s store (feed_from over room n s store)
    go false e k z = subst (Good over room n s store) (sym (feed_waits over room n s store e)) (good_waiting over room n s store e)
    go true e zero z =
        subst (Good over room n s store)
        (sym (feed_rule over room n s store _ refl e ∙ ap (after (line_of (n + 1) (done_to s store).0.outcome) (done_to s store).0.extent) (halt_zero (done_to s store).0.extent _ _ z)))
        (good_halted over room n s store e (done_to s store) refl z)
    go true e (suc k) z =
        let nz : 0 < (done_to s store).0.extent = omega (arith, z) in
        let p = ready_parts over (length s) room e in
        subst (Good over room n s store)
        (sym (feed_rule over room n s store _ refl e ∙ ap (after (line_of (n + 1) (done_to s store).0.outcome) (done_to s store).0.extent) (halt_more (done_to s store).0.extent _ _ nz)))
        (good_on over room n s store e (done_to s store) refl nz _ (ih _ _ _ _ (omega (arith, length-drop (done_to s store).0.extent s, p.0, z))))

good_in : (turns : ℕ) (over : Bool) (room n : ℕ) (s store : List ℕ) → length s ≤ turns → Good over room n s store (feed_from over room n s store)
good_in zero over room n s store h = good_by over room n s store (λ r m t u k. absurd (omega arith))
good_in (suc turns) over room n s store h = good_by over room n s store (λ r m t u k. good_in turns over r m t u (omega arith))

pub good : (over : Bool) (room n : ℕ) (s store : List ℕ) → Good over room n s store (feed_from over room n s store)
good over room n s store = good_in (length s) over room n s store (omega arith)

-- ---- what follows from the contract of `feed`

abbrev progress : Feed → Progress
progress f = record { count = f.state.count; stopped = f.state.stopped; used = f.used; wrote = length f.text }

feeds_good : (over : Bool) (x : State) (held store out : List ℕ) (f : Feed) → x.stopped ≡ false → Good over (length out) x.count held store f
    → length (f.text ++ drop (length f.text) out) ≡ length out → Feeds over x held store out (progress f) f.store (f.text ++ drop (length f.text) out)
feeds_good over x held store out f v g k =
    record {
      used_within = g.used_within;
      wrote_within = omega (arith, k, length-append f.text (drop (length f.text) out), length-drop (length f.text) out);
      count_within = g.count_within;
      fed = λ later b h.
          ap (λ (t : List ℕ). before t (left (state_of (progress f)) (drop f.used held ++ later) f.store)) (take-append_seam f.text (drop (length f.text) out))
          ∙ g.fed later b h
          ∙ sym (left_on x (held ++ later) store v);
      waits = g.waits;
      moves = g.moves;
    }

feeds_rests : (over : Bool) (x : State) (held store out : List ℕ) → x.stopped ≡ true → Feeds over x held store out (progress (rests x store)) store out
feeds_rests over x held store out e =
    record {
      used_within = omega arith;
      wrote_within = omega arith;
      count_within = omega arith;
      fed = λ later b h. refl;
      waits = λ u. absurd (true_false (sym e ∙ u));
      moves = λ u h. refl;
    }

pub feeds : (over : Bool) (x : State) (held store out : List ℕ) (p : Progress) (store' out' : List ℕ)
    → (p, store', out') ≡ leaves (feed_of over x held store (length out)) out → length out' ≡ length out → Feeds over x held store out p store' out'
unfolding leaves feed_of
feeds over x held store out p store' out' q k =
    subst (λ (t : Progress × List ℕ × List ℕ). Feeds over x held store out t.0 t.1 t.2) (sym q)
    (go x.stopped refl (ap (λ (t : Progress × List ℕ × List ℕ). length t.2) (sym q) ∙ k))
  where
    fam : Bool → Type 0
    fam b = let f = cond b (rests x store) (feed_from over (length out) x.count held store) in
        length (f.text ++ drop (length f.text) out) ≡ length out
        → Feeds over x held store out (progress f) f.store (f.text ++ drop (length f.text) out)

    go : (b : Bool) → x.stopped ≡ b → fam b
    go true e l = feeds_rests over x held store out e
    go false e l = feeds_good over x held store out (feed_from over (length out) x.count held store) e (good over (length out) x.count held store) l
