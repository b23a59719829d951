-- What comes of a call, told as one result; that a refusal leaves what was there; and bytes that are written one by one.
-- Assumes nothing.
use Rattle.std.specs.Prelude.{Ok, Err}
use Prim.Native.Nat.{ℕ, ◌≤◌, ◌<◌, min}
use mathlib.Core.Path.{◌≡◌, refl, sym, ap, ap₂, ◌∙◌}
use mathlib.Core.Logic.{◌≢◌}
use mathlib.Core.Bool.{Bool, true, false, cond}
use mathlib.Core.Option.{Option, none, some}
use mathlib.Core.List.{List}
use native.Mathlib.Omega.{arith}
use native.Mathlib.Decide.{dec_lt}
use borrow.Author.Tests.{ne_eqb, eq-eqb, lt-ltb, le-ltb, lt-leb, leb-true}
use lib.ListN.{length, get_or}
use Rattle.layout.proofs.Bounds.{both}
use Rattle.answer.specs.declared.Refusal.{Refusal}
use Rattle.answer.specs.declared.Refusal.TheVariants.{Damaged, Field}
use Rattle.road.specs.declared.Source.{Source}
use Rattle.road.specs.Results.{Verdict}
use Rattle.road.specs.Judge.{slot_verdict}
use Rattle.index.specs.Index.{Index}
use Rattle.index.specs.Index.{lden_of, lnight_of}
use Rattle.index.proofs.Laws.{Small, lden_small, lnight_small}
use Rattle.store.specs.declared.Held.{Held}
use Rattle.store.specs.Store.{last_receiver, Book, HeldStands, SoundBook, damaged, book_of}
use Rattle.store.proofs.Laws.{sound_book}
use Rattle.calls.specs.Calls.{Answer}
use Rattle.calls.specs.declared.Reply.TheVariants as answer
use Rattle.calls.specs.Calls.{Step, refuse, tell, change, allow, from_used, refusal_in, told, on_store, clear_store, ask_receiver}
use Rattle.request.specs.Record.{Told}
use Rattle.request.specs.Record.{read_of, extent_of}
use Rattle.history.specs.History.{Call, Clear, accepted, perform}
use Rattle.history.proofs.Theorems.{of_this_book}
use Rattle.service.specs.declared.Deed.{Deed}
use Rattle.service.specs.Service.{Outcome}
use Rattle.service.specs.Service.{call_of, slot_told, outcome_of, outcome_refusal, answer_told, done_to}
use Rattle.viewer.specs.Viewer.{result_of, lastly, unless_refused, cleared, applied, indices_in, tell_in, answered, asked}

-- ---- a refusal leaves what was there

abbrev Leaves : Option Refusal → List ℕ → List ℕ → Type 0
Leaves o s t = (why : Refusal) → o ≡ some why → t ≡ s

unless : (o : Option Refusal) (s t : List ℕ) → Leaves o s t → (result_of o, t) ≡ unless_refused o s t
unless none s t f = refl
unless (some why) s t f = ap (λ (x : List ℕ). (result_of (some why), x)) (f why refl)

not_accepted : (a : Answer) (why : Refusal) → refusal_in a ≡ some why → accepted a ≡ false
not_accepted (Ok answer.Done) why e = absurd (let z : ◌≡◌ {A = ℕ} 0 1 = cc in omega arith)
not_accepted (Ok (answer.Levels d n)) why e = absurd (let z : ◌≡◌ {A = ℕ} 0 1 = cc in omega arith)
not_accepted (Err r) why e = refl

call_leaves : (c : Call) (s : List ℕ) → Leaves (refusal_in (perform c s).0) s (perform c s).1
call_leaves c s why e = of_this_book.refused_leaves c s (not_accepted (perform c s).0 why e)

-- ---- clear

pub of_clear : (s t : List ℕ) (a : Answer) (x : ℕ) → (a, t) ≡ clear_store s → x ≡ result_of (refusal_in a) → (x, t) ≡ cleared s
unfolding cleared
of_clear s t a x e r =
    ap₂ (λ (n : ℕ) (u : List ℕ). (n, u)) r refl
    ∙ ap (λ (o : Answer × List ℕ). (result_of (refusal_in o.0), o.1)) e
    ∙ unless (refusal_in (clear_store s).0) s (clear_store s).1 (call_leaves Clear s)

-- ---- apply

same_refusal : (slot : ℕ) (a : Answer) → outcome_refusal (outcome_of slot a) ≡ refusal_in a
same_refusal slot (Ok answer.Done) = refl
same_refusal slot (Ok (answer.Levels d n)) = refl
same_refusal slot (Err why) = refl

refuse_leaves : (why : Refusal) (s : List ℕ) → (on_store (λ (b : Book). refuse why) s).1 ≡ s
unfolding on_store
refuse_leaves why s = go (damaged s)
  where
    go : (t : Bool) → (cond {A = Answer × List ℕ} t (Err Damaged, s) (Err why, s)).1 ≡ s
    go true = refl
    go false = refl

told_leaves : (t : Told) (x : Source) (s : List ℕ) → Leaves (refusal_in (answer_told t x s).0) s (answer_told t x s).1
told_leaves (Ok c) x s = call_leaves (call_of c x) s
told_leaves (Err r) x s = λ why e. refuse_leaves r s

done_leaves : (bytes s : List ℕ) → Leaves (outcome_refusal (done_to bytes s).0.outcome) s (done_to bytes s).1
unfolding done_to
done_leaves bytes s why e =
    told_leaves (read_of bytes).told (read_of bytes).source s why
    (sym (same_refusal (slot_told (read_of bytes).told) (answer_told (read_of bytes).told (read_of bytes).source s).0) ∙ e)

last_none : (o : Option Refusal) → lastly false o ≡ o
last_none none = refl
last_none (some why) = refl

last_some : (o : Option Refusal) (s t : List ℕ) → (result_of (lastly true o), s) ≡ unless_refused (lastly true o) s t
last_some none s t = refl
last_some (some why) s t = refl

module _ (bytes s : List ℕ) where
  refusal : Option Refusal
  refusal = outcome_refusal (done_to bytes s).0.outcome

  -- one record and no more
  pub of_one : (t : List ℕ) (d : Deed) (x : ℕ) → length bytes ≤ extent_of bytes → (d, t) ≡ done_to bytes s
      → x ≡ result_of (lastly false (outcome_refusal d.outcome)) → (x, t) ≡ applied bytes s
  unfolding applied refusal
  of_one t d x h e r =
      ap (λ (n : ℕ). (n, t)) (r ∙ ap result_of (last_none (outcome_refusal d.outcome)))
      ∙ ap (λ (o : Deed × List ℕ). (result_of (outcome_refusal o.0.outcome), o.1)) e
      ∙ unless refusal s (done_to bytes s).1 (done_leaves bytes s)
      ∙ ap (λ (o : Option Refusal). unless_refused o s (done_to bytes s).1) (sym (last_none refusal))
      ∙ ap (λ (b : Bool). unless_refused (lastly b refusal) s (done_to bytes s).1) (sym (le-ltb (extent_of bytes) (length bytes) h))

  -- bytes follow it
  pub of_more : (d : Outcome) (x : ℕ) → extent_of bytes < length bytes → d ≡ (done_to bytes s).0.outcome
      → x ≡ result_of (lastly true (outcome_refusal d)) → (x, s) ≡ applied bytes s
  unfolding applied refusal
  of_more d x h e r =
      ap (λ (n : ℕ). (n, s)) (r ∙ ap (λ (o : Outcome). result_of (lastly true (outcome_refusal o))) e)
      ∙ last_some refusal s (done_to bytes s).1
      ∙ ap (λ (b : Bool). unless_refused (lastly b refusal) s (done_to bytes s).1) (sym (lt-ltb (extent_of bytes) (length bytes) h))

-- ---- ask

-- a slot beyond the last is refused by its number, whatever it is
beyond : (i : ℕ) (b : Book) → last_receiver < i → ask_receiver i b ≡ refuse (Field 1)
unfolding ask_receiver
beyond i b h = rw (lt-leb i last_receiver h) refl

same_ask : (i : ℕ) (b : Book) → ask_receiver (min i 65535) b ≡ ask_receiver i b
same_ask i b = go (dec_lt i 65535)
  where
    go : Dec (i < 65535) → ask_receiver (min i 65535) b ≡ ask_receiver i b
    go (yes h) = ap (λ (k : ℕ). ask_receiver k b) (omega (arith, h))
    go (no h) = beyond (min i 65535) b (omega (arith, h)) ∙ sym (beyond i b (omega (arith, h)))

ask_step : (f g : Book → Step) (s : List ℕ) → f (book_of s) ≡ g (book_of s) → on_store f s ≡ on_store g s
unfolding on_store
ask_step f g s e = ap (λ (k : Step). cond (damaged s) (Err Damaged, s) (told s k)) e

-- the book is asked for slot k, and answers a
pub same_answer : (i k : ℕ) (s : List ℕ) (a : Answer) → k ≡ min i 65535 → (a, s) ≡ on_store (ask_receiver k) s → a ≡ answered i s
same_answer i k s a l e =
    ap (λ (o : Answer × List ℕ). o.0)
    (e ∙ ap (λ (n : ℕ). on_store (ask_receiver n) s) l ∙ ask_step (ask_receiver (min i 65535)) (ask_receiver i) s (same_ask i (book_of s)))

-- which is b, and that is told
pub of_ask : (i k : ℕ) (s out t : List ℕ) (a b : Answer) (x : ℕ) → k ≡ min i 65535 → (a, s) ≡ on_store (ask_receiver k) s → a ≡ b
    → (x, t) ≡ tell_in out b → (x, t) ≡ asked i s out
unfolding asked
of_ask i k s out t a b x l e f r = r ∙ ap (tell_in out) (sym f ∙ same_answer i k s a l e)

-- an ask is refused, or tells two indices, which are small
abbrev pub Tells : Answer → Type 0
Tells (Ok answer.Done) = ⊥
Tells (Ok (answer.Levels den night)) = Small den × Small night
Tells (Err why) = Unit {0}

abbrev StepTells : Step → Type 0
StepTells (refuse why) = Unit {0}
StepTells (tell a) = Tells a
StepTells (change b) = ⊥

past_verdict : (v : Verdict) (k : Step) → StepTells k → StepTells (allow v k)
past_verdict (Ok tt) k t = t
past_verdict (Err why) k t = tt

held_tells : (x : Held) → HeldStands x → Tells (Ok (answer.Levels (lden_of x.sums.day x.sums.evening x.sums.night) (lnight_of x.sums.night)))
held_tells x h =
    let a = both _ _ h.1 in
    let b = both _ _ a.0 in
    let day = leb-true _ _ b.0 in
    let evening = leb-true _ _ b.1 in
    let night = leb-true _ _ a.1 in
    (lden_small x.sums.day x.sums.evening x.sums.night day evening night, lnight_small x.sums.night night)

seat_tells : (o : Option Held) → ((x : Held) → o ≡ some x → HeldStands x)
    → StepTells (from_used o (λ x. tell (Ok (answer.Levels (lden_of x.sums.day x.sums.evening x.sums.night) (lnight_of x.sums.night)))))
seat_tells none h = tt
seat_tells (some x) h = held_tells x (h x refl)

step_tells : (i : ℕ) (b : Book) → SoundBook b → StepTells (ask_receiver i b)
unfolding ask_receiver
step_tells i b sound = past_verdict (slot_verdict last_receiver i (Ok tt)) _ (seat_tells (get_or b.receivers i none) (sound.receivers_stand i))

told_tells : (s : List ℕ) (k : Step) → StepTells k → Tells (told s k).0
told_tells s (refuse why) t = t
told_tells s (tell a) t = t
told_tells s (change b) t = absurd t

pub ask_tells : (i : ℕ) (s : List ℕ) → Tells (answered i s)
unfolding on_store
ask_tells i s = go (damaged s) refl
  where
    go : (t : Bool) → damaged s ≡ t → Tells (cond {A = Answer × List ℕ} t (Err Damaged, s) (told s (ask_receiver i (book_of s)))).0
    go true e = tt
    go false e = told_tells s (ask_receiver i (book_of s)) (step_tells i (book_of s) (sound_book s e))

-- ---- bytes

module _ (den night : Index) (out : List ℕ) where
  pub not_written : (x : ℕ) → length out ≢ 4 → x ≡ result_of (lastly true none) → (x, out) ≡ tell_in out (Ok (answer.Levels den night))
  not_written x h e = rw (ne_eqb (length out) 4 h) (ap (λ (n : ℕ). (n, out)) e)

  pub all_told : length out ≡ 4 → (result_of none, indices_in (Ok (answer.Levels den night))) ≡ tell_in out (Ok (answer.Levels den night))
  all_told h = rw (eq-eqb (length out) 4 h) refl

  pub all_written : (x : ℕ) → length out ≡ 4 → x ≡ result_of (lastly false none)
      → (x, indices_in (Ok (answer.Levels den night))) ≡ tell_in out (Ok (answer.Levels den night))
  all_written x h r = ap (λ (k : ℕ). (k, indices_in (Ok (answer.Levels den night)))) r ∙ all_told h
