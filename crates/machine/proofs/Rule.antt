-- The rule of the listing without turns: an empty rest, a record that stops the job, a record and the rest behind it.
-- Assumes nothing.
use Prim.Native.Nat.{ℕ, zero, suc, ◌+◌, ◌≤◌, ◌<◌}
use mathlib.Core.Path.{◌≡◌, refl, ap, ◌∙◌}
use mathlib.Core.Bool.{Bool, true, false, cond}
use mathlib.Core.List.{List, [], ◌∷◌, ◌++◌, append_assoc}
use native.Mathlib.Omega.{arith}
use lib.ListN.{length, drop, length-drop}
use Rattle.service.specs.declared.Deed.{Deed}
use Rattle.service.specs.Service.{done_to}
use Rattle.service.proofs.Own.{own}
use Rattle.listing.specs.Listing.{line_of}
use Rattle.machine.specs.declared.State.{State}
use Rattle.machine.specs.Job.{Listing, before, ended, stop_or, list_in, list_from, ListingRule}
use Rattle.machine.specs.Feed.{left}

-- turns enough are enough
turns : (a b n : ℕ) (s store : List ℕ) → length s ≤ a → length s ≤ b → list_in a n s store ≡ list_in b n s store
unfolding list_in
turns zero zero n [] store h l = refl
turns zero (suc b) n [] store h l = refl
turns (suc a) zero n [] store h l = refl
turns (suc a) (suc b) n [] store h l = refl
turns zero b n (x ∷ s) store h l = absurd (omega arith)
turns (suc a) zero n (x ∷ s) store h l = absurd (omega arith)
turns (suc a) (suc b) n (x ∷ s) store h l =
    ap (before (line_of (n + 1) (done_to (x ∷ s) store).0.outcome))
    (go (done_to (x ∷ s) store).0.extent (done_to (x ∷ s) store).1 (λ t u k. turns a b (n + 1) t u (omega arith) (omega arith)))
  where
    go : (e : ℕ) (u : List ℕ) → ((t u : List ℕ) → length t ≤ length s → list_in a (n + 1) t u ≡ list_in b (n + 1) t u)
        → stop_or e (ended (n + 1) u) (list_in a (n + 1) (drop e (x ∷ s)) u) ≡ stop_or e (ended (n + 1) u) (list_in b (n + 1) (drop e (x ∷ s)) u)
    go zero u f = refl
    go (suc e) u f = f (drop e s) u (omega (arith, length-drop e s))

pub rule_end : (n : ℕ) (store : List ℕ) → list_from n [] store ≡ ended n store
unfolding list_from list_in
rule_end n store = refl

-- the line of the next record; then it stops, or the rest follows
next : (n : ℕ) (s store : List ℕ) (d : Deed × List ℕ) → 0 < length s → done_to s store ≡ d
    → list_from n s store ≡ before (line_of (n + 1) d.0.outcome) (stop_or d.0.extent (ended (n + 1) d.1) (list_from (n + 1) (drop d.0.extent s) d.1))
unfolding list_from list_in
next n [] store d h e = absurd (omega arith)
next n (b ∷ s) store d h e =
    ap (λ (x : Deed × List ℕ). before (line_of (n + 1) x.0.outcome) (stop_or x.0.extent (ended (n + 1) x.1) (list_in (length s) (n + 1) (drop x.0.extent (b ∷ s)) x.1))) e
    ∙ ap (before (line_of (n + 1) d.0.outcome)) (go d.0.extent d.1)
  where
    go : (e : ℕ) (u : List ℕ) → stop_or e (ended (n + 1) u) (list_in (length s) (n + 1) (drop e (b ∷ s)) u)
        ≡ stop_or e (ended (n + 1) u) (list_in (length (drop e (b ∷ s))) (n + 1) (drop e (b ∷ s)) u)
    go zero u = refl
    go (suc e) u = turns (length s) (length (drop e s)) (n + 1) (drop e s) u (omega (arith, length-drop e s)) (omega arith)

stop_zero : (e : ℕ) (a b : Listing) → e ≡ 0 → stop_or e a b ≡ a
stop_zero zero a b z = refl
stop_zero (suc e) a b z = absurd (omega arith)

stop_more : (e : ℕ) (a b : Listing) → 0 < e → stop_or e a b ≡ b
stop_more zero a b z = absurd (omega arith)
stop_more (suc e) a b z = refl

pub rule_stop : (n : ℕ) (s store : List ℕ) (d : Deed × List ℕ) → 0 < length s → done_to s store ≡ d → d.0.extent ≡ 0
    → list_from n s store ≡ before (line_of (n + 1) d.0.outcome) (ended (n + 1) d.1)
rule_stop n s store d h e z = next n s store d h e ∙ ap (before (line_of (n + 1) d.0.outcome)) (stop_zero d.0.extent _ _ z)

pub rule_on : (n : ℕ) (s store : List ℕ) (d : Deed × List ℕ) → 0 < length s → done_to s store ≡ d → 0 < d.0.extent
    → list_from n s store ≡ before (line_of (n + 1) d.0.outcome) (list_from (n + 1) (drop d.0.extent s) d.1)
rule_on n s store d h e z = next n s store d h e ∙ ap (before (line_of (n + 1) d.0.outcome)) (stop_more d.0.extent _ _ z)

pub rule : ListingRule
rule = record { ends = rule_end; stops = rule_stop; goes_on = rule_on; own = own }

-- ---- what is left

pub true_false : true ≡ false → ⊥
true_false e = let z : ◌≡◌ {A = ℕ} 0 1 = cc in omega arith

pub before_before : (t u : List ℕ) (l : Listing) → before (t ++ u) l ≡ before t (before u l)
before_before t u l = λ i. (append_assoc t u l.0 i, l.1)

pub left_on : (x : State) (s store : List ℕ) → x.stopped ≡ false → left x s store ≡ list_from x.count s store
unfolding left
left_on x s store e = ap (λ (b : Bool). cond b (ended x.count store) (list_from x.count s store)) e

pub left_stopped : (x : State) (s store : List ℕ) → x.stopped ≡ true → left x s store ≡ ended x.count store
unfolding left
left_stopped x s store e = ap (λ (b : Bool). cond b (ended x.count store) (list_from x.count s store)) e

-- of an empty rest nothing is left
pub left_none : (x : State) (store : List ℕ) → left x [] store ≡ ended x.count store
left_none x store = go x.stopped refl
  where
    go : (b : Bool) → x.stopped ≡ b → left x [] store ≡ ended x.count store
    go true e = left_stopped x [] store e
    go false e = left_on x [] store e ∙ rule_end x.count store
