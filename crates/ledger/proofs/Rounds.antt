-- A round of the receivers, for any change of a source slot: the steps of the first pass, and what the second pass writes.
-- Assumes nothing.
use Rattle.std.specs.Prelude.{None, Some, Ok, Err}
use mathlib.Core.Path.{◌≡◌, refl, sym, ap, ap₂, ◌∙◌}
use mathlib.Core.Bool.{Bool, true, false, not, ◌&&◌}
use mathlib.Core.Option.{Option, none, some}
use mathlib.Core.List.{List, [], ◌∷◌, ◌++◌, map}
use Prim.Native.Nat.{ℕ, suc, ◌+◌, ◌≤◌, ◌<◌}
use native.Mathlib.Numerals.{add-one}
use native.Mathlib.Omega.{arith}
use lib.ListN.{length, get_or, set, take, drop, replicate, length-set, length-replicate, get_or-replicate, drop_of_length-le}
use lib.Seq.{take-suc, take-suc-set, drop-cons, take_all, get_or-set_other}
use Rattle.answer.specs.declared.Refusal.{Refusal}
use Rattle.answer.specs.declared.Refusal.TheVariants.{Damaged}
use Rattle.road.specs.declared.Shares.{Shares}
use Rattle.road.specs.declared.Bar.{Bar}
use Rattle.road.specs.Results.{Pair}
use Rattle.account.specs.declared.Account.{Account}
use Rattle.store.specs.declared.Held.{Held}
use Rattle.store.specs.Store.{receiver_count, Seat}
use Rattle.ledger.specs.declared.round.Turn.TheVariants.{Moved, Barred, Late}
use Rattle.ledger.specs.Lists.{omap, present, every, bar_at, or_bar, first_bar}
use Rattle.ledger.specs.Changes.{Change, follow, bar_of}
use Rattle.ledger.specs.Ledger.{turn_of, to_seat, unless_stopped, in_time, rounded, seated}

pub and_false : (b : Bool) → (b && false) ≡ false
and_false true = refl
and_false false = refl

pub and_true : (b : Bool) → (b && true) ≡ b
and_true true = refl
and_true false = refl

pub false_true : false ≡ true → ⊥
false_true e = let z : ◌≡◌ {A = ℕ} 0 1 = cc in omega arith

pub and_both : (a b : Bool) → a && b ≡ true → (a ≡ true) × (b ≡ true)
and_both true b e = (refl, e)
and_both false b e = absurd (false_true e)

pub map_snoc : {A B : Type 0} (f : A → B) (l : List A) (a : A) → map f (l ++ (a ∷ [])) ≡ map f l ++ (f a ∷ [])
map_snoc f [] a = refl
map_snoc {B = B} f (x ∷ l) a = ap (λ (m : List B). f x ∷ m) (map_snoc f l a)

-- ---- what becomes of one receiver

module _ (c : Change) (x : Held) where
  -- it follows, if its pair is heard and its sums can
  pub record Follows (a : Account) : Type 0 where
    pub heard : (h : Shares) × (c.tried x.who ≡ Ok h)
    pub fits : c.fits x ≡ true
    pub sums : c.sums x ≡ a

  abbrev Stays : Type 0
  Stays = ((h : Shares) × (c.tried x.who ≡ Ok h)) × (c.fits x ≡ false)

  pub told_moved : (a : Account) → turn_of c x ≡ Moved a → Follows a
  unfolding turn_of
  told_moved a = go (c.tried x.who) (c.fits x) refl refl
    where
      go : (p : Pair) (f : Bool) → c.tried x.who ≡ p → c.fits x ≡ f → turn_of c x ≡ Moved a → Follows a
      go (Ok h) true d e q = let w : Moved (c.sums x) ≡ Moved a = sym (rw (d, e, turn_of)) ∙ q in record { heard = (h, d); fits = e; sums = cc }
      go (Ok h) false d e q = let w : Late ≡ Moved a = sym (rw (d, e, turn_of)) ∙ q in absurd (let z : ◌≡◌ {A = ℕ} 0 1 = cc in omega arith)
      go (Err b) f d e q = let w : Barred b ≡ Moved a = sym (rw (d, turn_of)) ∙ q in absurd (let z : ◌≡◌ {A = ℕ} 0 1 = cc in omega arith)

  pub told_late : turn_of c x ≡ Late → Stays
  unfolding turn_of
  told_late = go (c.tried x.who) (c.fits x) refl refl
    where
      go : (p : Pair) (f : Bool) → c.tried x.who ≡ p → c.fits x ≡ f → turn_of c x ≡ Late → Stays
      go (Ok h) true d e q = let w : Moved (c.sums x) ≡ Late = sym (rw (d, e, turn_of)) ∙ q in absurd (let z : ◌≡◌ {A = ℕ} 0 1 = cc in omega arith)
      go (Ok h) false d e q = ((h, d), e)
      go (Err b) f d e q = let w : Barred b ≡ Late = sym (rw (d, turn_of)) ∙ q in absurd (let z : ◌≡◌ {A = ℕ} 0 1 = cc in omega arith)

  pub told_barred : (b : Bar) → turn_of c x ≡ Barred b → c.tried x.who ≡ Err b
  unfolding turn_of
  told_barred b = go (c.tried x.who) (c.fits x) refl refl
    where
      go : (p : Pair) (f : Bool) → c.tried x.who ≡ p → c.fits x ≡ f → turn_of c x ≡ Barred b → c.tried x.who ≡ Err b
      go (Ok h) true d e q = let w : Moved (c.sums x) ≡ Barred b = sym (rw (d, e, turn_of)) ∙ q in absurd (let z : ◌≡◌ {A = ℕ} 0 1 = cc in omega arith)
      go (Ok h) false d e q = let w : Late ≡ Barred b = sym (rw (d, e, turn_of)) ∙ q in absurd (let z : ◌≡◌ {A = ℕ} 0 1 = cc in omega arith)
      go (Err a) f d e q = let w : Barred a ≡ Barred b = sym (rw (d, turn_of)) ∙ q in let k : a ≡ b = cc in d ∙ ap Err k

-- ---- the first pass

module _ (c : Change) where
  abbrev tries : Held → Pair
  tries x = c.tried x.who

  abbrev all_fit : List (Option Held) → Bool
  all_fit l = every c.fits (present l)

  -- what is known before slot j: the rest decides where the round stops; the seats before j are those of receivers that have followed
  pub record Rounding (l : List (Option Held)) (late : Bool) (seats : List Seat) (j : ℕ) : Type 0 where
    pub stop : bar_of c l ≡ first_bar tries j (drop j l)
    pub time : all_fit l ≡ (not late && all_fit (drop j l))
    pub count : length seats ≡ receiver_count
    pub done : late ≡ false → take j seats ≡ map to_seat (map (omap (follow c)) (take j l))
    pub rest : (k : ℕ) → j ≤ k → k < receiver_count → get_or seats k None ≡ None

  module _ (l : List (Option Held)) (late : Bool) (seats : List Seat) (j : ℕ) (h : j < length l) (k : j < receiver_count) (g : Rounding l late seats j) where
    here : drop j l ≡ get_or l j none ∷ drop (j + 1) l
    here = rw add-one (drop-cons l j none h)

    one_more : take (j + 1) l ≡ take j l ++ (get_or l j none ∷ [])
    one_more = rw add-one (take-suc l j none h)

    seats_more : take (j + 1) seats ≡ take j seats ++ (get_or seats j None ∷ [])
    seats_more = rw add-one (take-suc seats j None (omega (arith, g.count)))

    rest_is : (o : Option Held) → get_or l j none ≡ o → drop j l ≡ o ∷ drop (j + 1) l
    rest_is o e = here ∙ ap (λ (x : Option Held). x ∷ drop (j + 1) l) e

    -- the seats up to and with j, once that of j is right
    done_more : (ts : List Seat) (o : Option Held) → get_or l j none ≡ o → take (j + 1) ts ≡ take j seats ++ (to_seat (omap (follow c) o) ∷ []) → late ≡ false
        → take (j + 1) ts ≡ map to_seat (map (omap (follow c)) (take (j + 1) l))
    done_more ts o e f z =
        f ∙ ap (λ (a : List Seat). a ++ (to_seat (omap (follow c) o) ∷ [])) (g.done z)
        ∙ sym (ap (λ (m : List (Option Held)). map to_seat (map (omap (follow c)) m)) (one_more ∙ ap (λ (x : Option Held). take j l ++ (x ∷ [])) e)
        ∙ ap (map to_seat) (map_snoc (omap (follow c)) (take j l) o) ∙ map_snoc to_seat (map (omap (follow c)) (take j l)) (omap (follow c) o))

    stop_next : (o : Option Held) → get_or l j none ≡ o → first_bar tries j (o ∷ drop (j + 1) l) ≡ first_bar tries (suc j) (drop (j + 1) l)
        → bar_of c l ≡ first_bar tries (j + 1) (drop (j + 1) l)
    stop_next o e f = g.stop ∙ ap (first_bar tries j) (rest_is o e) ∙ f ∙ ap (λ (n : ℕ). first_bar tries n (drop (j + 1) l)) (sym (add-one j))

    -- a receiver whose pair is heard does not stop it
    pass : (x : Held) → ((h : Shares) × (tries x ≡ Ok h)) → first_bar tries j (some x ∷ drop (j + 1) l) ≡ first_bar tries (suc j) (drop (j + 1) l)
    unfolding first_bar
    pass x p = ap (λ (q : Pair). or_bar j q (first_bar tries (suc j) (drop (j + 1) l))) p.1

    time_next : (o : Option Held) → get_or l j none ≡ o → all_fit l ≡ (not late && all_fit (o ∷ drop (j + 1) l))
    time_next o e = g.time ∙ ap (λ (m : List (Option Held)). not late && all_fit m) (rest_is o e)

    pub round_free : get_or l j none ≡ none → Rounding l late seats (j + 1)
    unfolding first_bar
    round_free e = record {
      stop = stop_next none e refl;
      time = time_next none e;
      count = g.count;
      done = done_more seats none e (seats_more ∙ ap (λ (t : Seat). take j seats ++ (t ∷ [])) (g.rest j (omega arith) k));
      rest = λ n a b. g.rest n (omega arith) b;
    }

    pub round_moved : (x : Held) (a : Account) → get_or l j none ≡ some x → turn_of c x ≡ Moved a
        → Rounding l late (set seats j (Some (record { who = x.who; sums = a }))) (j + 1)
    round_moved x a e t =
        let seat : Seat = Some (record { who = x.who; sums = a }) in
        let m : j < length seats = omega (arith, g.count) in
        let f = told_moved c x a t in
        record {
          stop = stop_next (some x) e (pass x f.heard);
          time = time_next (some x) e ∙ ap (λ (b : Bool). not late && (b && all_fit (drop (j + 1) l))) f.fits;
          count = length-set seats j seat ∙ g.count;
          done = done_more (set seats j seat) (some x) e
              (rw add-one (take-suc-set seats j seat m) ∙ ap (λ (a : Account). take j seats ++ (to_seat (some (record { who = x.who; sums = a })) ∷ [])) (sym f.sums));
          rest = λ n a b. get_or-set_other seats j n seat None (λ q. omega arith) ∙ g.rest n (omega arith) b;
        }

    pub round_late : (x : Held) → get_or l j none ≡ some x → turn_of c x ≡ Late → Rounding l true seats (j + 1)
    round_late x e t =
        let f = told_late c x t in
        record {
          stop = stop_next (some x) e (pass x f.0);
          time = time_next (some x) e ∙ ap (λ (b : Bool). not late && (b && all_fit (drop (j + 1) l))) f.1 ∙ and_false (not late);
          count = g.count;
          done = λ z. absurd (false_true (sym z));
          rest = λ n a b. g.rest n (omega arith) b;
        }

    pub round_barred : (x : Held) (b : Bar) → get_or l j none ≡ some x → turn_of c x ≡ Barred b → bar_of c l ≡ some (bar_at j b)
    unfolding first_bar
    round_barred x b e t =
        g.stop ∙ ap (first_bar tries j) (rest_is (some x) e) ∙ ap (λ (q : Pair). or_bar j q (first_bar tries (suc j) (drop (j + 1) l))) (told_barred c x b t)

  pub round_begun : (l : List (Option Held)) → Rounding l false (replicate receiver_count None) 0
  round_begun l = record {
    stop = refl;
    time = refl;
    count = length-replicate {A = Seat} receiver_count None;
    done = λ z. refl;
    rest = λ n a b. get_or-replicate {A = Seat} receiver_count n None None b;
  }

  module _ (l : List (Option Held)) (late : Bool) (seats : List Seat) (j : ℕ) (n : length l ≡ receiver_count) (h : receiver_count ≤ j) (g : Rounding l late seats j) where
    none_left : drop j l ≡ []
    none_left = drop_of_length-le l {i = j} (omega arith)

    free : bar_of c l ≡ none
    unfolding first_bar
    free = g.stop ∙ ap (first_bar tries j) none_left

    fits : all_fit l ≡ not late
    fits = g.time ∙ ap (λ (m : List (Option Held)). not late && all_fit m) none_left ∙ and_true (not late)

    pub round_late_over : late ≡ true → Err Damaged ≡ rounded c l
    round_late_over e = sym (ap₂ (λ (b : Option Refusal) (t : Bool). unless_stopped b (in_time t (map to_seat (map (omap (follow c)) l)))) free (fits ∙ ap not e))

    pub round_over : late ≡ false → Ok seats ≡ rounded c l
    round_over e =
        let t : take j l ≡ l = take_all j l (omega arith) in
        let u : take j seats ≡ seats = take_all j seats (omega (arith, g.count)) in
        ap Ok (sym u ∙ g.done e ∙ ap (λ (m : List (Option Held)). map to_seat (map (omap (follow c)) m)) t)
        ∙ sym (ap₂ (λ (b : Option Refusal) (t : Bool). unless_stopped b (in_time t (map to_seat (map (omap (follow c)) l)))) free (fits ∙ ap not e))

  pub round_stopped : (l : List (Option Held)) (why : Refusal) → bar_of c l ≡ some why → Err why ≡ rounded c l
  round_stopped l why f = sym (ap (λ (b : Option Refusal). unless_stopped b (in_time (all_fit l) (map to_seat (map (omap (follow c)) l)))) f)

-- ---- the second pass

pub seated_map : (f : Held → Held) (l : List (Option Held)) → seated (map to_seat (map (omap f) l)) l ≡ map (omap f) l
unfolding seated
seated_map f [] = refl
seated_map f (none ∷ l) = ap (λ (m : List (Option Held)). none ∷ m) (seated_map f l)
seated_map f (some x ∷ l) = ap (λ (m : List (Option Held)). some (f x) ∷ m) (seated_map f l)
