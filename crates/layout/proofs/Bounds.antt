-- The laws of the least and the greatest values. Assumes nothing.
use Prim.Native.Nat.{ℕ, zero, suc, suc-le-suc, ◌+◌, ◌^◌, ◌≤◌, ◌<◌}
use mathlib.Core.Path.{◌≡◌, refl, ap, ◌∙◌}
use mathlib.Core.Bool.{Bool, true, false, ◌&&◌}
use mathlib.Core.List.{List, [], ◌∷◌}
use native.Mathlib.Nat.{lt_of_le_of_lt}
use native.Mathlib.Numerals.{add-one}
use native.Mathlib.Omega.{arith}
use lib.Dec.{leb, ltb}
use lib.ListN.{length, get_or, drop}
use lib.Seq.{drop-cons, drop-length}
use borrow.Author.Tests.{leb-true, ltb-true, le-leb, lt-leb}
use Rattle.layout.specs.Layout.{Within}
use Rattle.layout.specs.Bounds.{allowed, onwards, first_outside, Inside, under}

pub both : (a b : Bool) → a && b ≡ true → (a ≡ true) × (b ≡ true)
both true b h = (refl, h)
both false b h = let z : ◌≡◌ {A = ℕ} 0 1 = cc in absurd (omega arith)

allowed_bounds : (lo hi v : ℕ) → allowed lo hi v ≡ true → (lo ≤ v) × (v ≤ hi)
allowed_bounds lo hi v h =
    let t = both (leb lo v) (leb v hi) h in
    (leb-true lo v t.0, leb-true v hi t.1)

onwards_le : (b : Bool) (n m : ℕ) → n ≤ m → onwards b n ≤ suc m
onwards_le true n m h = omega arith
onwards_le false n m h = omega arith

onwards_lt : (b : Bool) (i n : ℕ) → i < onwards b n → (b ≡ true) × (i ≤ n)
onwards_lt true i n h = (refl, omega arith)
onwards_lt false i n h = absurd (omega arith)

pub outside_le : (los his vs : List ℕ) → first_outside los his vs ≤ length vs
outside_le los his [] = omega arith
outside_le [] his (v ∷ vs) = omega arith
outside_le (lo ∷ los) [] (v ∷ vs) = omega arith
outside_le (lo ∷ los) (hi ∷ his) (v ∷ vs) = onwards_le (allowed lo hi v) _ _ (outside_le los his vs)

-- each field before the first that is outside has its bounds
pub inside_at : (los his vs : List ℕ) (i : ℕ) → i < first_outside los his vs
    → (get_or los i 0 ≤ get_or vs i 0) × (get_or vs i 0 ≤ get_or his i 0)
inside_at los his [] i h = absurd (omega arith)
inside_at [] his (v ∷ vs) i h = absurd (omega arith)
inside_at (lo ∷ los) [] (v ∷ vs) i h = absurd (omega arith)
inside_at (lo ∷ los) (hi ∷ his) (v ∷ vs) zero h =
    allowed_bounds lo hi v (onwards_lt (allowed lo hi v) 0 (first_outside los his vs) h).0
inside_at (lo ∷ los) (hi ∷ his) (v ∷ vs) (suc i) h =
    inside_at los his vs i (onwards_lt (allowed lo hi v) (suc i) (first_outside los his vs) h).1

-- the first that is outside lacks one of them
at_first : (b : Bool) (lo hi v : ℕ) (los his vs : List ℕ) (r : ℕ) → allowed lo hi v ≡ b
    → (r < length vs → allowed (get_or los r 0) (get_or his r 0) (get_or vs r 0) ≡ false) → onwards b r < suc (length vs)
    → allowed (get_or (lo ∷ los) (onwards b r) 0) (get_or (hi ∷ his) (onwards b r) 0) (get_or (v ∷ vs) (onwards b r) 0) ≡ false
at_first true lo hi v los his vs r e ih h = ih (omega arith)
at_first false lo hi v los his vs r e ih h = e

pub outside_at : (los his vs : List ℕ) → length los ≡ length vs → length his ≡ length vs → first_outside los his vs < length vs
    → allowed (get_or los (first_outside los his vs) 0) (get_or his (first_outside los his vs) 0) (get_or vs (first_outside los his vs) 0) ≡ false
outside_at los his [] e f h = absurd (omega arith)
outside_at [] his (v ∷ vs) e f h = absurd (omega arith)
outside_at (lo ∷ los) [] (v ∷ vs) e f h = absurd (omega arith)
outside_at (lo ∷ los) (hi ∷ his) (v ∷ vs) e f h =
    at_first (allowed lo hi v) lo hi v los his vs (first_outside los his vs) refl (outside_at los his vs (omega arith) (omega arith)) h

pub none_outside : (los his vs : List ℕ) → length vs ≤ first_outside los his vs → Inside los his vs
none_outside los his vs h = omega (arith, outside_le los his vs)

-- and fields that have their bounds are inside
pub all_inside : (los his vs : List ℕ) → length los ≡ length vs → length his ≡ length vs
    → ((i : ℕ) → i < length vs → (get_or los i 0 ≤ get_or vs i 0) × (get_or vs i 0 ≤ get_or his i 0)) → Inside los his vs
all_inside los his [] e f h = refl
all_inside [] his (v ∷ vs) e f h = absurd (omega arith)
all_inside (lo ∷ los) [] (v ∷ vs) e f h = absurd (omega arith)
all_inside (lo ∷ los) (hi ∷ his) (v ∷ vs) e f h =
    let b = h 0 (omega arith) in
    simp (le-leb lo v b.0, le-leb v hi b.1)
    (ap suc (all_inside los his vs (omega arith) (omega arith) (λ i l. h (suc i) (suc-le-suc l))))

-- fields that are inside fit, where the greatest values do
pub inside_within : (ws los his vs : List ℕ) → under ws his ≡ true → length vs ≡ length ws → Inside los his vs → Within ws vs
inside_within [] los his [] u e g = tt
inside_within [] los his (v ∷ vs) u e g = absurd (omega arith)
inside_within (w ∷ ws) los his [] u e g = absurd (omega arith)
inside_within (w ∷ ws) [] his (v ∷ vs) u e g = absurd (omega arith)
inside_within (w ∷ ws) (lo ∷ los) [] (v ∷ vs) u e g = absurd (omega arith)
inside_within (w ∷ ws) (lo ∷ los) (hi ∷ his) (v ∷ vs) u e g =
    let f = first_outside los his vs in
    let b = allowed lo hi v in
    let l : v ≤ hi = (allowed_bounds lo hi v (onwards_lt b 0 f (omega arith)).0).1 in
    let t = both (ltb hi (2 ^ w)) (under ws his) u in
    let k : length vs ≤ f = (onwards_lt b (length vs) f (omega arith)).1 in
    (lt_of_le_of_lt l (ltb-true hi (2 ^ w) t.0), inside_within ws los his vs t.1 (omega arith) (none_outside los his vs k))

-- where a search from index i on ends, counted from there
abbrev pub ahead : List ℕ → List ℕ → List ℕ → ℕ → ℕ
ahead los his vs i = first_outside (drop i los) (drop i his) (drop i vs)

-- one step of the search, at index i
module _ (los his vs : List ℕ) (i : ℕ) (h : i < length vs) (e : length los ≡ length vs) (f : length his ≡ length vs) where
  here : ahead los his vs i
      ≡ onwards (allowed (get_or los i 0) (get_or his i 0) (get_or vs i 0)) (ahead los his vs (i + 1))
  here =
      let k : i < length los = omega arith in
      let m : i < length his = omega arith in
      rw (add-one, drop-cons los i 0, drop-cons his i 0, drop-cons vs i 0)

  pub outside_more : {g : ℕ} → g ≡ i + ahead los his vs i → get_or los i 0 ≤ get_or vs i 0 → get_or vs i 0 ≤ get_or his i 0
      → g ≡ i + 1 + ahead los his vs (i + 1)
  outside_more {g} p a b =
      let z : ahead los his vs i ≡ suc (ahead los his vs (i + 1)) =
      here ∙ simp (le-leb _ _ a, le-leb _ _ b) in
      omega arith

  pub outside_low : {g : ℕ} → g ≡ i + ahead los his vs i → get_or vs i 0 < get_or los i 0 → i ≡ g
  outside_low {g} p a =
      let z : ahead los his vs i ≡ 0 = here ∙ simp (lt-leb _ _ a) in
      omega arith

  pub outside_high : {g : ℕ} → g ≡ i + ahead los his vs i → get_or los i 0 ≤ get_or vs i 0 → get_or his i 0 < get_or vs i 0 → i ≡ g
  outside_high {g} p a b =
      let z : ahead los his vs i ≡ 0 = here ∙ simp (le-leb _ _ a, lt-leb _ _ b) in
      omega arith

pub outside_end : (los his vs : List ℕ) (i : ℕ) {g : ℕ} → i ≡ length vs → g ≡ i + ahead los his vs i → i ≡ g
outside_end los his vs i {g} e p =
    let z : ahead los his vs i ≡ 0 = rw (e, drop-length vs) in
    omega arith
