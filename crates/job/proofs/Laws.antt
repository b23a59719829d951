-- Bytes at hand, turns and runs: the texts so far, in front of what is left, are the listing of what arrived.
-- Assumes nothing.
use Rattle.std.specs.Prelude.{Ok, Err}
use Prim.Native.Nat.{ℕ, zero, suc, ◌+◌, ◌-◌, ◌*◌, ◌≤◌, ◌<◌}
use mathlib.Core.Path.{◌≡◌, refl, sym, ap, ap₂, ◌∙◌, subst}
use mathlib.Core.Bool.{Bool, true, false, cond, ◌||◌, ◌&&◌}
use mathlib.Core.List.{List, [], ◌∷◌, ◌++◌, append-nil, append_assoc}
use native.Mathlib.Omega.{arith}
use borrow.Author.Tests.{eqb-true, eqb-false, eq-eqb, leb-true, leb-false}
use lib.Dec.{eqb, leb}
use lib.ListN.{length, take, drop, length-append, length-drop}
use lib.Seq.{take-nil, take_at, take-append-le, take-append-add, drop_at, drop-drop, length-take-le}
use Rattle.layout.specs.Layout.{Bytes}
use Rattle.layout.proofs.Numbers.{bytes_append, bytes_take, bytes_drop}
use Rattle.request.specs.Kinds.{longest_record}
use Rattle.answer.specs.declared.Refusal.TheVariants.{Damaged}
use Rattle.store.specs.Store.{damaged, store_length, cleared_bytes}
use Rattle.store.proofs.Laws.{cleared}
use Rattle.calls.specs.Calls.{Answer}
use Rattle.calls.specs.declared.Reply.TheVariants.{Done}
use Rattle.calls.specs.Calls.{clear_store}
use Rattle.machine.specs.declared.State.{State}
use Rattle.machine.specs.declared.Progress.{Progress}
use Rattle.machine.specs.Job.{before, ended, list_from}
use Rattle.machine.specs.Feed.{left, Feeds}
use Rattle.machine.specs.Inner.{part}
use Rattle.machine.proofs.Rule.{true_false, before_before, left_on, left_stopped, left_none}
use Rattle.machine.proofs.Lines.{part_length}
use Rattle.job.specs.declared.pipe.Hand.{Hand}
use Rattle.job.specs.declared.pipe.Stand.{Stand}
use Rattle.job.specs.declared.pipe.Last.{Last}
use Rattle.job.specs.Job.{Follows, state_in, at_hand, Advanced, Turned, Ended, Ran}

-- ---- bytes at hand

-- nothing is fetched
stays : (over : Bool) (n : ℕ) → over || leb longest_record n ≡ true → over ≡ false → longest_record ≤ n
stays true n e o = absurd (true_false o)
stays false n e o = leb-true longest_record n e

pub stays_at_hand : (s : List ℕ) (from to : ℕ) (over failed : Bool) → from ≤ to → to ≤ length s → over || leb longest_record (to - from) ≡ true
    → Follows over (part from to s) s (record { from = from; to = to; over = over; failed = failed })
stays_at_hand s from to over failed h l t =
    record {
      ordered = h;
      within = l;
      more = [];
      more_bytes = λ i. omega arith;
      are = sym (append-nil (part from to s));
      quiet = λ e. refl;
      stays_over = λ e. e;
      fetches = λ e f. absurd (let w = stays over (to - from) t e in let n = part_length s from to h l in omega arith);
    }

-- what stands behind some bytes is bytes
behind : (s was more : List ℕ) (from to : ℕ) → Bytes s → part from to s ≡ was ++ more → Bytes more
behind s was more from to b e =
    subst Bytes (drop_at was more (length was) refl)
    (bytes_drop (length was) (was ++ more) (subst Bytes e (bytes_take (to - from) (drop from s) (bytes_drop from s b))))

-- more is fetched behind the first bytes, which stay
pub fetched : (s sub : List ℕ) (at more : ℕ) (failed : Bool) → at ≤ length s → length sub ≡ length (take (length s - at) (drop at s)) → at + more ≤ length s
    → Bytes (take at s ++ (sub ++ drop (length s - at) (drop at s)))
    → Follows false (take at s) (take at s ++ (sub ++ drop (length s - at) (drop at s)))
    (record { from = 0; to = at + more; over = eqb more 0; failed = failed })
fetched s sub at more failed h l m b =
    let n : length (take at s) ≡ at = length-take-le at s h in
    let w : length (take (length s - at) (drop at s)) ≡ length s - at = length-take-le (length s - at) (drop at s) (omega (arith, length-drop at s)) in
    let e = drop (length s - at) (drop at s) in
    let r = sub ++ e in
    let k : length (take at s ++ r) ≡ at + length r = length-append (take at s) r ∙ ap (λ (x : ℕ). x + length r) n in
    let j : length r ≡ length sub + length e = length-append sub e in
    let z : at + more - 0 ≡ length (take at s) + more = omega (arith, n) in
    let are : part 0 (at + more) (take at s ++ r) ≡ take at s ++ take more sub =
    ap (λ (x : ℕ). take x (take at s ++ r)) z
    ∙ take-append-add (take at s) r more
    ∙ ap (λ (x : List ℕ). take at s ++ x) (take-append-le more sub e (omega (arith, l, w))) in
    record {
      ordered = omega arith;
      within = omega (arith, k, j, l, w);
      more = take more sub;
      more_bytes = behind (take at s ++ r) (take at s) (take more sub) 0 (at + more) b are;
      are = are;
      quiet = λ y. ap (λ (x : ℕ). take x sub) (eqb-true more 0 y);
      stays_over = λ y. absurd (true_false (sym y));
      fetches = λ y f. let q = eqb-false more 0 y in omega (arith, q, length-take-le more sub (omega (arith, l, w)));
    }

-- what was not over is fetched behind
or_left : (over b : Bool) → over || b ≡ false → over ≡ true → ⊥
or_left true b e o = true_false e
or_left false b e o = true_false (sym o)

pub short_of : (over : Bool) (n : ℕ) → over || leb longest_record n ≡ false → n < longest_record
short_of true n e = absurd (true_false e)
short_of false n e = leb-false longest_record n e

-- the bytes held at the front
pub held_front : (s s' : List ℕ) (from to : ℕ) → from ≤ to → to ≤ length s → s' ≡ part from to s ++ drop (to - from) s → take (to - from) s' ≡ part from to s
held_front s s' from to h l e = ap (take (to - from)) e ∙ take_at (part from to s) (drop (to - from) s) (to - from) (part_length s from to h l)

pub refilled : (over b : Bool) (was was' s : List ℕ) (h : Hand) → over || b ≡ false → was ≡ was' → Follows false was s h → Follows over was' s h
refilled over b was was' s h e q f =
    record {
      ordered = f.ordered;
      within = f.within;
      more = f.more;
      more_bytes = f.more_bytes;
      are = f.are ∙ ap (λ (x : List ℕ). x ++ f.more) q;
      quiet = f.quiet;
      stays_over = λ o. absurd (or_left over b e o);
      fetches = λ y k. f.fetches y (omega (arith, ap length q));
    }

-- ---- a feed of the bytes at hand

drop_take : (k n : ℕ) (l : List ℕ) → drop k (take n l) ≡ take (n - k) (drop k l)
drop_take zero n l = let e : n ≡ n - 0 = omega arith in ap (λ (x : ℕ). take x l) e
drop_take (suc k) zero l = let e : 0 ≡ 0 - suc k = omega arith in ap (λ (x : ℕ). take x (drop (suc k) l)) e
drop_take (suc k) (suc n) [] = sym (take-nil (suc n - suc k))
drop_take (suc k) (suc n) (x ∷ l) = let e : n - k ≡ suc n - suc k = omega arith in drop_take k n l ∙ ap (λ (y : ℕ). take y (drop k l)) e

-- the bytes at hand without the first k
part_after : (from to k : ℕ) (s : List ℕ) → drop k (part from to s) ≡ part (from + k) to s
part_after from to k s =
    let e : to - from - k ≡ to - (from + k) = omega arith in
    drop_take k (to - from) (drop from s) ∙ ap₂ (λ (x : ℕ) (l : List ℕ). take x l) e (drop-drop k from s)

pub advanced : (hand : Hand) (x : State) (input store out : List ℕ) (p : Progress) (store' out' : List ℕ) (told : Bool)
    → hand.from ≤ hand.to → hand.to ≤ length input → length input ≤ 65536 → length out' ≡ length out → damaged store' ≡ false
    → Feeds hand.over x (part hand.from hand.to input) store out p store' out'
    → Advanced hand x input store
    (record {
      start = hand.from;
      from = hand.from + p.used;
      to = hand.to;
      over = hand.over;
      count = p.count;
      stopped = p.stopped;
      wrote = p.wrote;
      unread = false;
      unwritten = told;
    }) store' out'
advanced hand x input store out p store' out' told h l m o d f =
    let n : length (part hand.from hand.to input) ≡ hand.to - hand.from = part_length input hand.from hand.to h l in
    record {
      start_is = refl;
      to_is = refl;
      over_is = refl;
      ordered = omega (arith, f.used_within, n);
      few = omega (arith, f.count_within, n);
      sound = d;
      fed = λ later b g.
          ap (λ (s : List ℕ). before (take p.wrote out') (left (record { count = p.count; stopped = p.stopped }) (s ++ later) store'))
          (sym (part_after hand.from hand.to p.used input))
          ∙ f.fed later b g;
      waits = λ e r.
          let w = f.waits e (omega arith) in
          (λ y. let q = w.0 y in omega arith, omega (arith, w.1));
    }

-- ---- a turn

module _ (s : Stand) (input store : List ℕ) (hand : Hand) (input' : List ℕ)
    (f : Follows s.over (part s.from s.to input) input' hand) where
  pub turned : (r : Stand) (store' output' : List ℕ) → Advanced hand (state_in s) input' store r store' output'
      → Turned s input store r input' store' output'
  turned r store' output' a =
      record {
        ordered = a.ordered;
        within = omega (arith, a.to_is, f.within);
        few = a.few;
        sound = a.sound;
        more = f.more;
        more_bytes = f.more_bytes;
        are = ap₂ (λ (x y : ℕ). part x y input') a.start_is a.to_is ∙ f.are;
        quiet = λ e. f.quiet (sym a.over_is ∙ e);
        stays_over = λ e. a.over_is ∙ f.stays_over e;
        fed = λ later b g. a.fed later b (λ e. g (a.over_is ∙ e)) ∙ ap (λ (l : List ℕ). left (state_in s) (l ++ later) store) f.are;
        fetches = λ e. f.fetches (sym a.over_is ∙ e);
        waits = λ u. a.waits;
      }

  -- where nothing could be read, nothing is done
  pub turned_unread : (output : List ℕ) → damaged store ≡ false
      → Turned s input store
      (record {
        start = hand.from;
        from = hand.from;
        to = hand.to;
        over = hand.over;
        count = s.count;
        stopped = s.stopped;
        wrote = 0;
        unread = true;
        unwritten = false;
      }) input' store output
  turned_unread output d =
      record {
        ordered = f.ordered;
        within = f.within;
        few = omega arith;
        sound = d;
        more = f.more;
        more_bytes = f.more_bytes;
        are = f.are;
        quiet = f.quiet;
        stays_over = f.stays_over;
        fed = λ later b g. ap (λ (l : List ℕ). left (state_in s) (l ++ later) store) f.are;
        fetches = f.fetches;
        waits = λ u. absurd (true_false u);
      }

-- ---- a run

-- a store of the right length is cleared
pub cleared_is : (s u : List ℕ) (a : Answer) → length s ≡ store_length → (a, u) ≡ clear_store s → u ≡ cleared_bytes
unfolding clear_store
cleared_is s u a l e =
    ap (λ (o : Answer × List ℕ). o.1)
    (e ∙ ap (λ (b : Bool). cond {A = Answer × List ℕ} b (Ok Done, cleared_bytes) (Err Damaged, s)) (eq-eqb (length s) store_length l))

pub record Running (store₀ input₀ output₀ store input output : List ℕ) (s : Stand) (turns : ℕ) : Type 0 where
  pub ordered : s.from ≤ s.to
  pub within : s.to ≤ length input
  pub same_store : length store ≡ length store₀
  pub same_input : length input ≡ length input₀
  pub same_output : length output ≡ length output₀
  pub few : s.count + 65536 * turns ≤ 9223372036854775808
  pub sound : damaged store ≡ false
  pub arrived : List ℕ
  pub text : List ℕ
  pub same : (later : List ℕ) → Bytes later → (s.over ≡ true → later ≡ [])
      → before text (left (state_in s) (at_hand s input ++ later) store) ≡ list_from 0 (arrived ++ later) cleared_bytes

pub running_begun : (store input output : List ℕ) (s : Stand) (turns : ℕ) → s.from ≡ 0 → s.to ≡ 0 → s.count ≡ 0 → s.stopped ≡ false
    → store ≡ cleared_bytes → 65536 * turns ≤ 9223372036854775808 → Running store input output store input output s turns
running_begun store input output s turns a b c d z h =
    record {
      ordered = omega arith;
      within = omega arith;
      same_store = refl;
      same_input = refl;
      same_output = refl;
      few = omega arith;
      sound = ap damaged z ∙ cleared.whole;
      arrived = [];
      text = [];
      same = λ later q f.
          let e : s.to - s.from ≡ 0 = omega arith in
          left_on (state_in s) (at_hand s input ++ later) store d
          ∙ ap₂ (λ (n k : ℕ). list_from n (take k (drop s.from input) ++ later) store) c e
          ∙ ap (list_from 0 later) z;
    }

none_append : (x y : List ℕ) → x ≡ [] → y ≡ [] → x ++ y ≡ []
none_append x y e f = ap₂ (λ (a b : List ℕ). a ++ b) e f

pub running_on : (store₀ input₀ output₀ store input output : List ℕ) (s : Stand) (turns turns' : ℕ) (r : Stand) (input' store' output' : List ℕ)
    → Running store₀ input₀ output₀ store input output s turns → turns ≡ turns' + 1
    → length store' ≡ length store → length input' ≡ length input → length output' ≡ length output
    → Turned s input store r input' store' output' → Running store₀ input₀ output₀ store' input' output' r turns'
running_on store₀ input₀ output₀ store input output s turns turns' r input' store' output' g k a b c t =
    record {
      ordered = t.ordered;
      within = t.within;
      same_store = a ∙ g.same_store;
      same_input = b ∙ g.same_input;
      same_output = c ∙ g.same_output;
      few = omega (arith, t.few, g.few);
      sound = t.sound;
      arrived = g.arrived ++ t.more;
      text = g.text ++ take r.wrote output';
      same = λ later y f.
          before_before g.text (take r.wrote output') (left (state_in r) (at_hand r input' ++ later) store')
          ∙ ap (before g.text) (t.fed later y f ∙ ap (λ (l : List ℕ). left (state_in s) l store) (append_assoc (at_hand s input) t.more later))
          ∙ g.same (t.more ++ later) (bytes_append t.more later t.more_bytes y) (λ e. none_append t.more later (t.quiet (t.stays_over e)) (f (t.stays_over e)))
          ∙ ap (λ (l : List ℕ). list_from 0 l cleared_bytes) (sym (append_assoc g.arrived t.more later));
    }

-- nothing is left where the job has stopped, or the input is over and no byte is at hand
nothing_left : (s : Stand) (input store later : List ℕ) → s.stopped || (s.over && eqb s.from s.to) ≡ true → (s.over ≡ true → later ≡ [])
    → left (state_in s) (at_hand s input ++ later) store ≡ ended s.count store
nothing_left s input store later e f = go s.stopped s.over refl refl e
  where
    go : (a b : Bool) → s.stopped ≡ a → s.over ≡ b → a || (b && eqb s.from s.to) ≡ true
        → left (state_in s) (at_hand s input ++ later) store ≡ ended s.count store
    go true b p q z = left_stopped (state_in s) (at_hand s input ++ later) store p
    go false false p q z = absurd (true_false (sym z))
    go false true p q z =
        let w : s.to - s.from ≡ 0 = omega (arith, eqb-true s.from s.to z) in
        ap (λ (l : List ℕ). left (state_in s) l store) (none_append (at_hand s input) later (ap (λ (k : ℕ). take k (drop s.from input)) w) (f q))
        ∙ left_none (state_in s) store

pub finished : (store₀ input₀ output₀ store input output : List ℕ) (s : Stand) (turns : ℕ) (last : Last) (output' : List ℕ)
    → Running store₀ input₀ output₀ store input output s turns → s.stopped || (s.over && eqb s.from s.to) ≡ true
    → Ended s.count last output'
    → Ran (record { whole = last.told; over = s.over; count = s.count; wrote = last.wrote }) store output'
finished store₀ input₀ output₀ store input output s turns last output' g e p =
    record {
      sound = g.sound;
      arrived = g.arrived;
      text = g.text;
      lists = λ w later b f.
          ap (λ (t : List ℕ). (g.text ++ t, store)) p.last
          ∙ ap (before g.text) (sym (nothing_left s input store later e f))
          ∙ g.same later b f;
      last = λ w. p.last;
    }

pub broken : (over : Bool) (count : ℕ) (store' output' : List ℕ) → damaged store' ≡ false
    → Ran (record { whole = false; over = over; count = count; wrote = 0 }) store' output'
broken over count store' output' d =
    record {
      sound = d;
      arrived = [];
      text = [];
      lists = λ w. absurd (true_false (sym w));
      last = λ w. absurd (true_false (sym w));
    }
