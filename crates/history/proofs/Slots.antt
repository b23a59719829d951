-- Laws of slots that know nothing of roads: what holds of each entry, rearrangements and sums, moves, placings apart.
-- Assumes nothing.
use mathlib.Core.Path.{◌≡◌, refl, sym, ap, ◌∙◌}
use mathlib.Core.Logic.{◌≢◌}
use mathlib.Core.Bool.{Bool, true, false, cond, ◌&&◌}
use mathlib.Core.Option.{Option, none, some}
use mathlib.Core.List.Permᴰ
use mathlib.Core.List.{List, [], ◌∷◌, map, Memᴰ, Permᴰ}
use Prim.Native.Nat.{ℕ, zero, suc, ◌+◌, ◌≤◌, ◌<◌}
use native.Mathlib.Nat.{le_of_suc-le-suc, not-suc-le-zero}
use native.Mathlib.Omega.{arith}
use lib.Dec.{eqb}
use lib.ListN.{length, get_or, set, replicate, length-set, length-replicate, get_or-replicate}
use lib.Seq.{get_or-set_same, get_or-set_other, set-get_or, ext_get_or}
use borrow.Author.Tests.{eqb-true, eqb-false, eq-eqb, ne_eqb}
use Rattle.ledger.specs.Lists.{omap, present, every, sum_of, All}
use Rattle.calls.specs.Calls.{used}
use Rattle.calls.proofs.Sums.{and_both, never}
use Rattle.history.specs.History.{Move, enter, leave, all_leave, still, last_at, in_slots, Put, entries_of, Apart, in_place}

-- ---- what holds of each

module _ {A : Type 0} (P : A → Type 0) where
  pub all_both : {Q R : A → Type 0} → ((a : A) → P a → Q a → R a) → (l : List A) → All P l → All Q l → All R l
  all_both f [] p q = tt
  all_both f (a ∷ l) p q = (f a p.0 q.0, all_both f l p.1 q.1)

  pub all_set : (l : List (Option A)) (i : ℕ) (o : Option A) → All P (present (o ∷ [])) → All P (present l) → All P (present (set l i o))
  all_set [] i o q p = tt
  all_set (none ∷ l) zero none q p = p
  all_set (none ∷ l) zero (some a) q p = (q.0, p)
  all_set (some b ∷ l) zero none q p = p.1
  all_set (some b ∷ l) zero (some a) q p = (q.0, p.1)
  all_set (none ∷ l) (suc i) o q p = all_set l i o q p
  all_set (some b ∷ l) (suc i) o q p = (p.0, all_set l i o q p.1)

  pub all_none : (n : ℕ) → All P (present (replicate n none))
  all_none zero = tt
  all_none (suc n) = all_none n

  pub all_at : (l : List (Option A)) (i : ℕ) (a : A) → All P (present l) → get_or l i none ≡ some a → P a
  all_at [] i a p e = never cc
  all_at (none ∷ l) zero a p e = never cc
  all_at (some b ∷ l) zero a p e = let q : b ≡ a = cc in rw q at p.0
  all_at (none ∷ l) (suc i) a p e = all_at l i a p e
  all_at (some b ∷ l) (suc i) a p e = all_at l i a p.1 e

  pub all_perm : {l m : List A} → Permᴰ l m → All P l → All P m
  all_perm Permᴰ.nil p = tt
  all_perm (Permᴰ.cons e π) p = (rw e at p.0, all_perm π p.1)
  all_perm (Permᴰ.swap e f) p = (rw f at p.1.0, (rw e at p.0, p.1.1))
  all_perm (Permᴰ.trans π ρ) p = all_perm ρ (all_perm π p)

module _ {A : Type 0} where
  pub every_all : (p : A → Bool) (l : List A) → All (λ a. p a ≡ true) l → every p l ≡ true
  every_all p [] q = refl
  every_all p (a ∷ l) q = and_both q.0 (every_all p l q.1)

-- ---- entries that are changed in their slots

module _ {A B : Type 0} (f : A → B) where
  pub every_omap : (p : B → Bool) (l : List (Option A)) → every p (present (map (omap f) l)) ≡ every (λ a. p (f a)) (present l)
  every_omap p [] = refl
  every_omap p (none ∷ l) = every_omap p l
  every_omap p (some a ∷ l) = ap (λ t. p (f a) && t) (every_omap p l)

  pub omap_set : (l : List (Option A)) (i : ℕ) (o : Option A) → map (omap f) (set l i o) ≡ set (map (omap f) l) i (omap f o)
  omap_set [] i o = refl
  omap_set (x ∷ l) zero o = refl
  omap_set (x ∷ l) (suc i) o = ap (λ (t : List (Option B)). omap f x ∷ t) (omap_set l i o)

  pub omap_none : (n : ℕ) → map (omap f) (replicate n none) ≡ replicate n none
  omap_none zero = refl
  omap_none (suc n) = ap (λ (t : List (Option B)). none ∷ t) (omap_none n)

  pub omap_twice : (g : B → B) (k : A → B) (l : List (Option A)) → ((a : A) → g (f a) ≡ k a) → map (omap g) (map (omap f) l) ≡ map (omap k) l
  omap_twice g k [] e = refl
  omap_twice g k (none ∷ l) e = ap (λ (t : List (Option B)). none ∷ t) (omap_twice g k l e)
  omap_twice g k (some a ∷ l) e = λ i. some (e a i) ∷ omap_twice g k l e i

  pub used_omap : (o : Option A) → used (omap f o) ≡ used o
  used_omap none = refl
  used_omap (some a) = refl

-- ---- rearrangements and sums

module _ {A : Type 0} where
  -- slot i holds o: o, if it names anybody, and the others
  pub perm_set : (o : Option A) (l : List (Option A)) (i : ℕ) → i < length l → Permᴰ (present (set l i o)) (present (o ∷ set l i none))
  perm_set none l i h = Permᴰ.refl (present (set l i none))
  perm_set (some a) [] i h = absurd (not-suc-le-zero h)
  perm_set (some a) (x ∷ l) zero h = Permᴰ.refl (a ∷ present l)
  perm_set (some a) (none ∷ l) (suc i) h = perm_set (some a) l i (le_of_suc-le-suc h)
  perm_set (some a) (some b ∷ l) (suc i) h =
      Permᴰ.trans (Permᴰ.cons refl (perm_set (some a) l i (le_of_suc-le-suc h))) (Permᴰ.swap refl refl)

  -- and so does whoever is in it
  pub perm_at : (l : List (Option A)) (i : ℕ) → i < length l → Permᴰ (present l) (present (get_or l i none ∷ set l i none))
  perm_at l i h = rw (set-get_or l i none) at (perm_set (get_or l i none) l i h)

  pub perm_sum : (f : A → ℕ) {l m : List A} → Permᴰ l m → sum_of f l ≡ sum_of f m
  perm_sum f Permᴰ.nil = refl
  perm_sum f (Permᴰ.cons e π) = omega (arith, ap f e, perm_sum f π)
  perm_sum f (Permᴰ.swap e q) = omega (arith, ap f e, ap f q)
  perm_sum f (Permᴰ.trans π ρ) = perm_sum f π ∙ perm_sum f ρ

-- ---- rows, and what moves make of them

module _ {A : Type 0} where
  pub in_slots_length : (n : ℕ) (f : ℕ → A) → length (in_slots n f) ≡ n
  unfolding in_slots
  in_slots_length zero f = refl
  in_slots_length (suc n) f = ap suc (in_slots_length n (λ k. f (suc k)))

  pub in_slots_at : (n : ℕ) (f : ℕ → A) (d : A) (i : ℕ) → i < n → get_or (in_slots n f) i d ≡ f i
  unfolding in_slots
  in_slots_at zero f d i h = absurd (not-suc-le-zero h)
  in_slots_at (suc n) f d zero h = refl
  in_slots_at (suc n) f d (suc i) h = in_slots_at n (λ k. f (suc k)) d i (le_of_suc-le-suc h)

module _ {A : Type 0} where
  in_slots_is : (n : ℕ) (f : ℕ → A) (d : A) (l : List A) → length l ≡ n → ((i : ℕ) → i < n → get_or l i d ≡ f i) → l ≡ in_slots n f
  in_slots_is n f d l e at =
      ext_get_or d l (in_slots n f) (e ∙ sym (in_slots_length n f))
      (λ i h. let q : i < n = omega arith in at i q ∙ sym (in_slots_at n f d i q))

module _ {A : Type 0} where
  -- n slots after a move
  abbrev pub moved : ℕ → Move A → List (Option A) → List (Option A)
  moved n (enter i a) l = set l i (some a)
  moved n (leave i) l = set l i none
  moved n all_leave l = replicate n none
  moved n still l = l

  moved_length : (n : ℕ) (m : Move A) (l : List (Option A)) → length l ≡ n → length (moved n m l) ≡ n
  moved_length n (enter i a) l e = length-set l i (some a) ∙ e
  moved_length n (leave i) l e = length-set l i none ∙ e
  moved_length n all_leave l e = length-replicate n none
  moved_length n still l e = e

  -- the slots that moves leave
  abbrev slots_after : ℕ → List (Move A) → List (Option A)
  slots_after n l = in_slots n (last_at l)

  set_at : (l : List (Option A)) (k i : ℕ) (o p : Option A) → i < length l → get_or l i none ≡ p → get_or (set l k o) i none ≡ cond (eqb i k) o p
  set_at l k i o p h e = go (eqb i k) refl
    where
      go : (t : Bool) → eqb i k ≡ t → get_or (set l k o) i none ≡ cond t o p
      go true q = let same : i ≡ k = eqb-true i k q in rw same (get_or-set_same l k o none (omega arith))
      go false q = get_or-set_other l k i o none (eqb-false i k q) ∙ e

  pub slots_moved : (n : ℕ) (m : Move A) (l : List (Move A)) → moved n m (slots_after n l) ≡ slots_after n (m ∷ l)
  unfolding last_at
  slots_moved n m l = in_slots_is n (last_at (m ∷ l)) none (moved n m (slots_after n l)) (moved_length n m (slots_after n l) (in_slots_length n (last_at l))) (go m)
    where
      go : (m : Move A) (i : ℕ) → i < n → get_or (moved n m (slots_after n l)) i none ≡ last_at (m ∷ l) i
      go (enter k a) i h = set_at (slots_after n l) k i (some a) (last_at l i) (omega (arith, in_slots_length n (last_at l))) (in_slots_at n (last_at l) none i h)
      go (leave k) i h = set_at (slots_after n l) k i none (last_at l i) (omega (arith, in_slots_length n (last_at l))) (in_slots_at n (last_at l) none i h)
      go all_leave i h = get_or-replicate n i none none h
      go still i h = in_slots_at n (last_at l) none i h

  pub slots_none : (n : ℕ) → replicate {A = Option A} n none ≡ slots_after n []
  unfolding last_at
  slots_none n = in_slots_is n (last_at []) none (replicate n none) (length-replicate n none) (λ i h. get_or-replicate n i none none h)

  -- ---- placings into slots apart

  abbrev pub entering : List (Put A) → List (Move A)
  entering l = map (λ x. enter x.slot x.entry) l

  -- a slot that none of them takes is free
  entering_free : (i : ℕ) (l : List (Put A)) → All (λ y. i ≢ y.slot) l → last_at (entering l) i ≡ none
  unfolding last_at
  entering_free i [] p = refl
  entering_free i (x ∷ l) p = rw (ne_eqb i x.slot p.0) (entering_free i l p.1)

  pub entering_perm : (n : ℕ) (l : List (Put A)) → Apart n l → Permᴰ (present (slots_after n (entering l))) (entries_of l)
  entering_perm n [] p = rw (← slots_none n) (none_present n)
    where
      none_present : (n : ℕ) → Permᴰ (present (replicate {A = Option A} n none)) []
      none_present zero = Permᴰ.nil
      none_present (suc n) = none_present n
  entering_perm n (x ∷ l) p =
      let S : List (Option A) = slots_after n (entering l) in
      let free : get_or S x.slot none ≡ none = in_slots_at n (last_at (entering l)) none x.slot p.0 ∙ entering_free x.slot l p.1 in
      rw (← slots_moved n (enter x.slot x.entry) (entering l))
      (Permᴰ.trans
      (rw (ap (set S x.slot) (sym free) ∙ set-get_or S x.slot none) at (perm_set (some x.entry) S x.slot (omega (arith, p.0, in_slots_length n (last_at (entering l))))))
      (Permᴰ.cons refl (entering_perm n l p.2)))

  -- each is found where it was placed
  pub entering_at : (n : ℕ) (l : List (Put A)) (x : Put A) → Apart n l → Memᴰ x l
      → (x.slot < n) × (last_at (entering l) x.slot ≡ some x.entry)
  unfolding last_at
  entering_at n [] x p m = elim m [ ]
  entering_at n (y ∷ l) x p (Memᴰ.head e) =
      rw e (p.0, rw (eq-eqb y.slot y.slot refl))
  entering_at n (y ∷ l) x p (Memᴰ.tail m) =
      let ih = entering_at n l x p.2 m in
      (ih.0, rw (ne_eqb x.slot y.slot (λ e. other l m p.1 (sym e))) ih.1)
    where
      other : (l : List (Put A)) → Memᴰ x l → All (λ z. y.slot ≢ z.slot) l → y.slot ≢ x.slot
      other [] m q = elim m [ ]
      other (z ∷ l) (Memᴰ.head e) q = rw e q.0
      other (z ∷ l) (Memᴰ.tail m) q = other l m q.1

  -- ---- each in its place

  pub in_place_entries : (i : ℕ) (l : List (Option A)) → entries_of (in_place i l) ≡ present l
  in_place_entries i [] = refl
  in_place_entries i (none ∷ l) = in_place_entries (suc i) l
  in_place_entries i (some a ∷ l) = ap (λ (t : List A). a ∷ t) (in_place_entries (suc i) l)

  in_place_after : (i k : ℕ) (l : List (Option A)) → k < i → All (λ y. k ≢ y.slot) (in_place i l)
  in_place_after i k [] h = tt
  in_place_after i k (none ∷ l) h = in_place_after (suc i) k l (omega arith)
  in_place_after i k (some a ∷ l) h = (omega arith, in_place_after (suc i) k l (omega arith))

  pub in_place_apart : (n i : ℕ) (l : List (Option A)) → i + length l ≤ n → Apart n (in_place i l)
  in_place_apart n i [] h = tt
  in_place_apart n i (none ∷ l) h = in_place_apart n (suc i) l (omega arith)
  in_place_apart n i (some a ∷ l) h = (omega arith, in_place_after (suc i) i l (omega arith), in_place_apart n (suc i) l (omega arith))
