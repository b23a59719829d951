-- What callers may use of a pair: what one piece and two parts of a road make, and that an accepted share is at most 10^15.
-- First, that the code's way of adding up gives the definition's. Assumes nothing.
use Rattle.std.specs.Prelude.{Some, None, Ok, Err}
use mathlib.Core.Path.{◌≡◌, refl, sym, ap, ◌∙◌, subst}
use mathlib.Core.Logic.{◌≢◌}
use mathlib.Core.Bool.{Bool, true, false, cond, ◌||◌}
use mathlib.Core.List.{List, [], ◌∷◌, ◌++◌, Permᴰ}
use mathlib.Core.Option.{Option, none, some}
use Prim.Native.Nat.{ℕ, zero, suc, ◌+◌, ◌-◌, ◌*◌, ◌/◌, ◌^◌, ◌≤◌, ◌<◌, max}
use native.Mathlib.Nat.{sub-le, mul_comm, mul-le-mul_left, div-le_of_le-mul, add_assoc, add-zero}
use native.Mathlib.Decide.{dec_le}
use native.Mathlib.Omega.{arith}
use lib.ListN.{get_or}
use Rattle.std.specs.Prelude.{Some, None}
use lib.Dec.{leb, ltb, eqb}
use borrow.Author.Tests.{lt-ltb, le-ltb, le-leb, lt-leb, ltb-true, ltb-false}
use Rattle.level.specs.Level.{energy_of, energy_at}
use Rattle.level.proofs.Laws.{energy_rising, energy_decade}
use Rattle.level.proofs.Signs.{energy_from_zero, energy_within}
use Rattle.root.specs.Root.{root_of}
use Rattle.course.specs.declared.Piece.{Piece}
use Rattle.course.specs.declared.Ends.{Ends}
use Rattle.course.specs.declared.Course.{Course}
use Rattle.course.specs.declared.Course.TheVariants.{Uncut, Between}
use Rattle.course.specs.Course.{square, pieces_between, Fits, Every}
use Rattle.course.proofs.Rule.{of_courses}
use Rattle.screen.specs.declared.Wall.{Wall}
use Rattle.screen.specs.Plan.{point}
use Rattle.screen.specs.Screen.{Loss, is_twice, taken_off, loss_by, loss_of}
use Rattle.screen.proofs.Lists.{met_any_order}
use Rattle.road.specs.declared.Term.{Term}
use Rattle.road.specs.declared.Source.{Source}
use Rattle.road.specs.declared.Receiver.{Receiver}
use Rattle.road.specs.declared.Shares.{Shares}
use Rattle.road.specs.declared.Bar.{Bar}
use Rattle.road.specs.declared.Bar.TheVariants.{Near, Far, Long, Loud, Walls}
use Rattle.road.specs.Results.{Voice, Part, Pair}
use Rattle.road.specs.Term.{◌⊕◌, period}
use Rattle.road.specs.Emission.{emission_level}
use Rattle.road.specs.Reach.{plan_square, space_square, length_term, distance_term, ground_term, screen_between, obstacle_term, walls_term, weather_term, weather_of, ray_height, share_level, energy_share, too_loud, share_of, loud_in, shares_of, sum_of, shares_over, bar_of, first_or, first_bar, any_of, unless_walls, unless_loud, unless_barred, pair_over, two_walls, pair_of, pieces_for, piece_alone, nearest, farthest, loudest, Promises}
use Rattle.road.specs.Pairs.{Pairing, most_share, share_in, Bounded}
use Rattle.road.specs.Limits.{longest}
use Rattle.road.specs.Inner.{silent, voice_of, voices_of, voiced_part, pair_by, hear_of, voiced_share, way_for, share_by, added_shares, rank, earlier, joined}
use Rattle.road.proofs.Bounds.{times, lv_small}
use Rattle.road.proofs.Sums.{term_eq, Small}

-- ---- bounds of the way

pub ground_most : (h r : ℕ) → (ground_term h r).down ≤ 480
unfolding ground_term
ground_most h r = sub-le 480 _

-- the larger of the two
larger : (m n k : ℕ) → m ≤ k → n ≤ k → max m n ≤ k
larger m n k h l = omega arith

pub obstacle_most : (h r d : ℕ) → d ≤ 6000 → (obstacle_term h r d).down ≤ 6000
unfolding obstacle_term
obstacle_most h r d l = larger d (ground_term h r).down 6000 l (omega (arith, ground_most h r))

pub small_way : (q r h d : ℕ) → 1 ≤ q → q ≤ farthest → r ≤ 1000000 → d ≤ 6000 → Small 50000 (distance_term q r ⊕ obstacle_term h r d)
unfolding distance_term obstacle_term
small_way q r h d a b e l = record { up = omega arith; down = omega (arith, lv_small q a (omega arith), obstacle_most h r d l) }

pub weather_most : (c h r : ℕ) → (weather_term c h r).down ≤ c
unfolding weather_term
weather_most c h r = go (leb r (10 * h))
  where
    far : c * (r - 10 * h) / r ≤ c
    far = div-le_of_le-mul r (subst (λ (n : ℕ). c * (r - 10 * h) ≤ n) (mul_comm c r) (mul-le-mul_left c (sub-le r (10 * h))))

    go : (b : Bool) → cond b 0 (c * (r - 10 * h) / r) ≤ c
    go true = omega arith
    go false = far

-- the root of a squared distance up to 2 km
pub record Reached (r : ℕ) : Type 0 where
  pub some : 1 ≤ r
  pub most : r ≤ 1000000

pub reached : (q r : ℕ) → 1 ≤ q → q ≤ farthest → (r * r ≤ q) × (q < (r + 1) * (r + 1)) → Reached r
reached q zero a b e = absurd (omega (arith, e.1))
reached q (suc r) a b e = record { some = omega arith; most = go (dec_le (suc r) 1000000) }
  where
    go : Dec (suc r ≤ 1000000) → suc r ≤ 1000000
    go (yes h) = h
    go (no h) =
        let l : 1000001 * 1000001 ≤ suc r * suc r = times 1000001 1000001 (suc r) (suc r) (omega arith) (omega arith) in
        absurd (omega (arith, e.0))

-- ---- the code's sums are the definition's

-- 13 by a level is 13 by its energy
pub loud_is : (t : Term) → too_loud t ≡ ltb most_share (energy_share t)
unfolding energy_share
loud_is t = go (dec_le (t.up - t.down) loudest)
  where
    top : energy_of loudest ≡ 1000000 * 10 ^ 9
    top = energy_decade 9

    go : Dec (t.up - t.down ≤ loudest) → too_loud t ≡ ltb most_share (energy_at t.up t.down)
    go (yes h) = le-ltb loudest (t.up - t.down) h ∙ sym (le-ltb most_share _ (energy_within t.up t.down (omega arith)))
    go (no h) =
        let l : most_share < energy_at t.up t.down = omega (arith, top, energy_from_zero t.up t.down (omega arith), energy_rising loudest (t.up - t.down) (omega arith)) in
        lt-ltb loudest (t.up - t.down) (omega arith) ∙ sym (lt-ltb most_share _ l)

-- the energy of a part, or that it is too loud
part_with : ℕ → Part
part_with e = cond (ltb most_share e) (Err Loud) (Ok e)

part_is : (v : Voice) (t : Term) → voiced_part v t ≡ part_with (voiced_share v t)
unfolding voiced_part part_with
part_is None t = refl
part_is (Some l) t = ap (λ (b : Bool). cond {A = Part} b (Err Loud) (Ok (energy_share (l ⊕ t)))) (loud_is (l ⊕ t))

pair_by_is : (x y z : ℕ) → pair_by (part_with x) (part_with y) (part_with z) ≡ unless_loud (record { day = x; evening = y; night = z })
unfolding part_with
pair_by_is x y z = go (ltb most_share x) (ltb most_share y) (ltb most_share z)
  where
    h : Shares
    h = record { day = x; evening = y; night = z }

    go : (a b d : Bool)
        → pair_by (cond a (Err Loud) (Ok x)) (cond b (Err Loud) (Ok y)) (cond d (Err Loud) (Ok z))
        ≡ cond {A = Pair} (a || b || d) (Err Loud) (Ok h)
    go true b d = refl
    go false true d = refl
    go false false true = refl
    go false false false = refl

-- what is heard of the piece p by the voices
abbrev hear_for : List Wall → List Voice → Piece → Receiver → Pair
hear_for ws vs p r = hear_of vs (length_term p.length) (plan_square p r) (space_square p r) (ray_height r) (taken_off (screen_between ws p r))

hear_is : (ws : List Wall) (vs : List Voice) (p : Piece) (r : Receiver) → hear_for ws vs p r ≡ unless_loud (shares_over (share_by ws vs r) (p ∷ []))
unfolding hear_of share_by
hear_is ws vs p r =
    (λ j. pair_by (part_is (get_or vs 0 silent) (way 0) j) (part_is (get_or vs 1 silent) (way 1) j) (part_is (get_or vs 2 silent) (way 2) j))
    ∙ pair_by_is (share 0) (share 1) (share 2)
    ∙ (λ j. unless_loud (record { day = sym (add-zero (share 0)) j; evening = sym (add-zero (share 1)) j; night = sym (add-zero (share 2)) j }))
  where
    way : ℕ → Term
    way i = way_for ws r p i

    share : ℕ → ℕ
    share i = voiced_share (get_or vs i silent) (way i)

level_is : (ws : List Wall) (s : Source) (p : Piece) (r : Receiver) (i : ℕ)
    → emission_level s i ⊕ walls_term s.walls s.height s.spacing ⊕ way_for ws r p i ≡ share_level ws s p r i
unfolding share_level
level_is ws s p r i = same (emission_level s i) (length_term p.length) _ _ _ _
  where
    same : (e l w d g m : Term) → e ⊕ w ⊕ (l ⊕ (d ⊕ g) ⊕ m) ≡ e ⊕ l ⊕ d ⊕ g ⊕ w ⊕ m
    same e l w d g m = term_eq _ _ (omega arith) (omega arith)

-- the share by a voice is that of the source
voiced_is : (ws : List Wall) (s : Source) (p : Piece) (r : Receiver) (i : ℕ) → voiced_share (voice_of s i) (way_for ws r p i) ≡ share_of ws s p r i
unfolding voice_of share_of
voiced_is ws s p r i = go (eqb (period s i).m 0)
  where
    t : Term
    t = way_for ws r p i

    sent : Voice
    sent = Some (emission_level s i ⊕ walls_term s.walls s.height s.spacing)

    go : (b : Bool) → voiced_share (cond b silent sent) t ≡ cond b 0 (energy_share (share_level ws s p r i))
    go true = refl
    go false = ap energy_share (level_is ws s p r i)

-- so are all of them, of any pieces
pub shares_by : (ws : List Wall) (s : Source) (r : Receiver) (ps : List Piece)
    → shares_over (share_by ws (voices_of s) r) ps ≡ shares_over (λ p i. share_of ws s p r i) ps
unfolding share_by voices_of
shares_by ws s r ps = λ j.
    record {
      day = sum_of (λ p. voiced_is ws s p r 0 j) ps;
      evening = sum_of (λ p. voiced_is ws s p r 1 j) ps;
      night = sum_of (λ p. voiced_is ws s p r 2 j) ps;
    }

-- ---- what bars a piece, case by case

module _ (p : Piece) (r : Receiver) where
  pub bar_near : space_square p r < nearest → bar_of p r ≡ some Near
  unfolding bar_of
  bar_near h = rw (lt-ltb (space_square p r) nearest h, bar_of)

  pub bar_far : farthest < space_square p r → bar_of p r ≡ some Far
  unfolding bar_of
  bar_far h = rw (le-ltb (space_square p r) nearest (omega arith), lt-ltb farthest (space_square p r) h, bar_of)

  -- a piece that is too far is neither too near nor, with a length that is allowed, too long: between these rows no order shows
  pub far_alone : p.length ≤ longest → farthest < space_square p r → (nearest ≤ space_square p r) × (4 * square p.length ≤ space_square p r)
  far_alone l h = (omega arith, omega (arith, times p.length p.length longest longest l l))

  pub bar_long : nearest ≤ space_square p r → space_square p r ≤ farthest → space_square p r < 4 * square p.length → bar_of p r ≡ some Long
  unfolding bar_of
  bar_long a b h =
      rw (le-ltb (space_square p r) nearest a, le-ltb farthest (space_square p r) b, lt-ltb (space_square p r) (4 * square p.length) h, bar_of)

  pub bar_none : nearest ≤ space_square p r → space_square p r ≤ farthest → 4 * square p.length ≤ space_square p r → bar_of p r ≡ none
  unfolding bar_of
  bar_none a b h =
      rw (le-ltb (space_square p r) nearest a, le-ltb farthest (space_square p r) b, le-ltb (space_square p r) (4 * square p.length) h, bar_of)

  -- and so of that piece by itself
  pub one_barred : (f : Piece → ℕ → ℕ) (two : Piece → Bool) (b : Bar) → bar_of p r ≡ some b → pair_over f two r (p ∷ []) ≡ Err b
  one_barred f two b e = ap (λ (o : Option Bar). unless_barred (first_or o none) (unless_walls (any_of two (p ∷ [])) (unless_loud (shares_over f (p ∷ []))))) e

  module _ (ws : List Wall) (vs : List Voice) (e : bar_of p r ≡ none) where
    -- by what the walls take off
    by_loss : (l : Loss) → screen_between ws p r ≡ l
        → pair_over (share_by ws vs r) (two_walls ws r) r (p ∷ []) ≡ unless_walls (is_twice l || false) (unless_loud (shares_over (share_by ws vs r) (p ∷ [])))
    by_loss l f =
        ap (λ (o : Option Bar). unless_barred (first_or o none) (unless_walls (any_of (two_walls ws r) (p ∷ [])) (unless_loud (shares_over (share_by ws vs r) (p ∷ []))))) e
        ∙ ap (λ (k : Loss). unless_walls (is_twice k || false) (unless_loud (shares_over (share_by ws vs r) (p ∷ [])))) f

    pub one_walled : screen_between ws p r ≡ None → pair_over (share_by ws vs r) (two_walls ws r) r (p ∷ []) ≡ Err Walls
    one_walled f = by_loss None f

    pub one_heard : (d : ℕ) → screen_between ws p r ≡ Some d
        → pair_over (share_by ws vs r) (two_walls ws r) r (p ∷ []) ≡ hear_of vs (length_term p.length) (plan_square p r) (space_square p r) (ray_height r) d
    one_heard d f =
        by_loss (Some d) f ∙ sym (hear_is ws vs p r)
        ∙ ap (λ (k : Loss). hear_of vs (length_term p.length) (plan_square p r) (space_square p r) (ray_height r) (taken_off k)) f

-- ---- two parts of a road

sum_append : (f : Piece → ℕ) (ps qs : List Piece) → sum_of f (ps ++ qs) ≡ sum_of f ps + sum_of f qs
sum_append f [] qs = omega arith
sum_append f (p ∷ ps) qs = ap (λ (n : ℕ). f p + n) (sum_append f ps qs) ∙ sym (add_assoc (f p) (sum_of f ps) (sum_of f qs))

shares_append : (f : Piece → ℕ → ℕ) (ps qs : List Piece) → shares_over f (ps ++ qs) ≡ added_shares (shares_over f ps) (shares_over f qs)
shares_append f ps qs = λ j.
    record {
      day = sum_append (λ p. f p 0) ps qs j;
      evening = sum_append (λ p. f p 1) ps qs j;
      night = sum_append (λ p. f p 2) ps qs j;
    }

first_append : (r : Receiver) (ps qs : List Piece) → first_bar r (ps ++ qs) ≡ first_or (first_bar r ps) (first_bar r qs)
first_append r [] qs = refl
first_append r (p ∷ ps) qs = ap (first_or (bar_of p r)) (first_append r ps qs) ∙ sym (nested (bar_of p r))
  where
    nested : (o : Option Bar) → first_or (first_or o (first_bar r ps)) (first_bar r qs) ≡ first_or o (first_or (first_bar r ps) (first_bar r qs))
    nested (some b) = refl
    nested none = refl

any_append : (two : Piece → Bool) (ps qs : List Piece) → any_of two (ps ++ qs) ≡ (any_of two ps || any_of two qs)
any_append two [] qs = refl
any_append two (p ∷ ps) qs = ap (λ (b : Bool). two p || b) (any_append two ps qs) ∙ nested (two p)
  where
    nested : (b : Bool) → (b || (any_of two ps || any_of two qs)) ≡ ((b || any_of two ps) || any_of two qs)
    nested true = refl
    nested false = refl

-- no place is loud, nor are walls a place
abbrev Placed : Option Bar → Type 0
Placed none = Unit
Placed (some Near) = Unit
Placed (some Far) = Unit
Placed (some Long) = Unit
Placed (some Loud) = ⊥
Placed (some Walls) = ⊥

bar_placed : (p : Piece) (r : Receiver) → Placed (bar_of p r)
unfolding bar_of
bar_placed p r = go (ltb (space_square p r) nearest) (ltb farthest (space_square p r)) (ltb (space_square p r) (4 * square p.length))
  where
    go : (a b d : Bool) → Placed (cond a (some Near) (cond b (some Far) (cond d (some Long) none)))
    go true b d = tt
    go false true d = tt
    go false false true = tt
    go false false false = tt

first_placed : (r : Receiver) (ps : List Piece) → Placed (first_bar r ps)
first_placed r [] = tt
first_placed r (p ∷ ps) = go (bar_of p r) (bar_placed p r) (first_placed r ps)
  where
    go : (o : Option Bar) → Placed o → Placed (first_bar r ps) → Placed (first_or o (first_bar r ps))
    go (some b) h l = h
    go none h l = l

-- ---- what two parts make

abbrev is_loud : Shares → Bool
is_loud h = ltb most_share h.day || ltb most_share h.evening || ltb most_share h.night

any_more : (a b d a' b' d' : Bool) → (a ≡ true → a' ≡ true) → (b ≡ true → b' ≡ true) → (d ≡ true → d' ≡ true)
    → (a || b || d) ≡ true → (a' || b' || d') ≡ true
any_more true b d a' b' d' f g h e = rw (f refl) refl
any_more false true d a' b' d' f g h e = rw (g refl) (second a')
  where
    second : (t : Bool) → (t || true || d') ≡ true
    second true = refl
    second false = refl
any_more false false true a' b' d' f g h e = rw (h refl) (third a' b')
  where
    third : (t u : Bool) → (t || u || true) ≡ true
    third true u = refl
    third false true = refl
    third false false = refl
any_more false false false a' b' d' f g h e = absurd (let z : ◌≡◌ {A = ℕ} 0 1 = cc in omega arith)

above_left : (a b : ℕ) → ltb most_share a ≡ true → ltb most_share (a + b) ≡ true
above_left a b e = lt-ltb most_share (a + b) (omega (arith, ltb-true most_share a e))

above_right : (a b : ℕ) → ltb most_share b ≡ true → ltb most_share (a + b) ≡ true
above_right a b e = lt-ltb most_share (a + b) (omega (arith, ltb-true most_share b e))

loud_left : (x y : Shares) → is_loud x ≡ true → is_loud (added_shares x y) ≡ true
loud_left x y = any_more _ _ _ _ _ _ (above_left x.day y.day) (above_left x.evening y.evening) (above_left x.night y.night)

loud_right : (x y : Shares) → is_loud y ≡ true → is_loud (added_shares x y) ≡ true
loud_right x y = any_more _ _ _ _ _ _ (above_right x.day y.day) (above_right x.evening y.evening) (above_right x.night y.night)

-- the rest of a pair, behind the bars of a place
abbrev rest : Bool → Shares → Pair
rest two x = unless_walls two (unless_loud x)

-- a bar of a place comes before all of the second part, and before the walls and the loudness of the first
placed_rank : (b : Bar) → Placed (some b) → rank b ≡ 0
placed_rank Near h = refl
placed_rank Far h = refl
placed_rank Long h = refl
placed_rank Loud h = absurd h
placed_rank Walls h = absurd h

first_bar_lem : (a b : Bar) → rank a ≤ rank b → ◌≡◌ {A = Pair} (Err a) (Err (earlier a b))
first_bar_lem a b h = sym (ap {B = Pair} (λ (t : Bool). Err (cond t a b)) (le-leb (rank a) (rank b) h))

second_bar : (a b : Bar) → rank b < rank a → ◌≡◌ {A = Pair} (Err b) (Err (earlier a b))
second_bar a b h = sym (ap {B = Pair} (λ (t : Bool). Err (cond t a b)) (lt-leb (rank a) (rank b) h))

placed_first : (b : Bar) → Placed (some b) → (q : Pair) → Err b ≡ joined (Err b) q
unfolding joined
placed_first b h (Ok y) = refl
placed_first b h (Err a) = first_bar_lem b a (omega (arith, placed_rank b h))

placed_second : (b : Bar) → Placed (some b) → (two : Bool) (x : Shares) → Err b ≡ joined (rest two x) (Err b)
unfolding joined
placed_second b h two x = go two (is_loud x)
  where
    go : (t u : Bool) → Err b ≡ joined (cond t (Err Walls) (cond u (Err Loud) (Ok x))) (Err b)
    go true u = second_bar Walls b (omega (arith, placed_rank b h))
    go false true = second_bar Loud b (omega (arith, placed_rank b h))
    go false false = refl

rest_join : (t u : Bool) (x y : Shares) → rest (t || u) (added_shares x y) ≡ joined (rest t x) (rest u y)
unfolding joined
rest_join t u x y = go t u (is_loud x) refl (is_loud y) refl
  where
    both : (l : Bool) → is_loud (added_shares x y) ≡ l → unless_loud (added_shares x y) ≡ cond l (Err Loud) (Ok (added_shares x y))
    both l e = ap (λ (w : Bool). cond w (Err Loud) (Ok (added_shares x y))) e

    go : (t u : Bool) (l : Bool) → is_loud x ≡ l → (m : Bool) → is_loud y ≡ m → rest (t || u) (added_shares x y)
        ≡ joined (cond t (Err Walls) (cond l (Err Loud) (Ok x))) (cond u (Err Walls) (cond m (Err Loud) (Ok y)))
    go true true l e m f = refl
    go true false l e true f = refl
    go true false l e false f = refl
    go false true true e m f = refl
    go false true false e m f = refl
    go false false true e true f = both true (loud_left x y e)
    go false false true e false f = both true (loud_left x y e)
    go false false false e true f = both true (loud_right x y f)
    go false false false e false f = refl

settled_join : (a b : Option Bar) → Placed a → Placed b → (t u : Bool) (x y : Shares)
    → unless_barred (first_or a b) (rest (t || u) (added_shares x y)) ≡ joined (unless_barred a (rest t x)) (unless_barred b (rest u y))
settled_join (some a) b h l t u x y = placed_first a h (unless_barred b (rest u y))
settled_join none (some b) h l t u x y = placed_second b l t x
settled_join none none h l t u x y = rest_join t u x y

pub join_is : (f : Piece → ℕ → ℕ) (two : Piece → Bool) (r : Receiver) (ps qs : List Piece)
    → pair_over f two r (ps ++ qs) ≡ joined (pair_over f two r ps) (pair_over f two r qs)
join_is f two r ps qs =
    (λ j. unless_barred (first_append r ps qs j) (rest (any_append two ps qs j) (shares_append f ps qs j)))
    ∙ settled_join (first_bar r ps) (first_bar r qs) (first_placed r ps) (first_placed r qs) (any_of two ps) (any_of two qs) (shares_over f ps) (shares_over f qs)

-- ---- what a ledger and a book know of a pair: no share is above 10^15

or_false : (a b : Bool) → (a || b) ≡ false → (a ≡ false) × (b ≡ false)
or_false true b e = absurd (let z : ◌≡◌ {A = ℕ} 0 1 = cc in omega arith)
or_false false b e = (refl, e)

nothing_brought : (b : Bar) (i : ℕ) → share_in (Err b) i ≤ most_share
nothing_brought b zero = omega arith
nothing_brought b (suc zero) = omega arith
nothing_brought b (suc (suc zero)) = omega arith
nothing_brought b (suc (suc (suc i))) = omega arith

unless_loud_bounded : (h : Shares) (i : ℕ) → share_in (unless_loud h) i ≤ most_share
unless_loud_bounded h i = go (is_loud h) refl
  where
    three : (i : ℕ) → h.day ≤ most_share → h.evening ≤ most_share → h.night ≤ most_share
        → get_or (h.day ∷ h.evening ∷ h.night ∷ []) i 0 ≤ most_share
    three zero x y z = x
    three (suc zero) x y z = y
    three (suc (suc zero)) x y z = z
    three (suc (suc (suc i))) x y z = omega arith

    go : (t : Bool) → is_loud h ≡ t → share_in (cond t (Err Loud) (Ok h)) i ≤ most_share
    go true e = nothing_brought Loud i
    go false e =
        let a = or_false (ltb most_share h.day || ltb most_share h.evening) (ltb most_share h.night) e in
        let b = or_false (ltb most_share h.day) (ltb most_share h.evening) a.0 in
        three i (ltb-false _ _ b.0) (ltb-false _ _ b.1) (ltb-false _ _ a.1)

pub over_bounded : (f : Piece → ℕ → ℕ) (two : Piece → Bool) (r : Receiver) (ps : List Piece) (i : ℕ) → share_in (pair_over f two r ps) i ≤ most_share
over_bounded f two r ps i = go (first_bar r ps) (any_of two ps)
  where
    go : (o : Option Bar) (t : Bool) → share_in (unless_barred o (rest t (shares_over f ps))) i ≤ most_share
    go (some b) t = nothing_brought b i
    go none true = nothing_brought Walls i
    go none false = unless_loud_bounded (shares_over f ps) i

pub pair_bounded : (ws : List Wall) → Bounded (pair_of ws)
unfolding pair_of
pair_bounded ws s r i = over_bounded (λ p j. share_of ws s p r j) (two_walls ws r) r (pieces_for r s.course) i

pub heard_most : (pair : Pairing) → Bounded pair → (s : Source) (r : Receiver) (h : Shares) → pair s r ≡ Ok h → (i : ℕ) → share_in (Ok h) i ≤ most_share
heard_most pair bounded s r h e i = subst (λ (p : Pair). share_in p i ≤ most_share) e (bounded s r i)

-- ---- the promises of the two courses

loud_in_lem : (ws : List Wall) (s : Source) (p : Piece) (r : Receiver) (i : ℕ) → loud_in ws s p r i ≡ ltb most_share (share_of ws s p r i)
unfolding loud_in share_of
loud_in_lem ws s p r i = go (eqb (period s i).m 0)
  where
    go : (b : Bool) → cond b false (too_loud (share_level ws s p r i)) ≡ ltb most_share (cond b 0 (energy_share (share_level ws s p r i)))
    go true = refl
    go false = loud_is (share_level ws s p r i)

alone : (ws : List Wall) (s : Source) (p : Piece) (r : Receiver)
    → unless_loud (shares_over (λ q i. share_of ws s q r i) (p ∷ [])) ≡ cond (loud_in ws s p r 0 || loud_in ws s p r 1 || loud_in ws s p r 2) (Err Loud) (Ok (shares_of ws s p r))
unfolding shares_of
alone ws s p r =
    (λ j. unless_loud (record { day = add-zero (share_of ws s p r 0) j; evening = add-zero (share_of ws s p r 1) j; night = add-zero (share_of ws s p r 2) j }))
    ∙ sym (λ j. cond (loud_in_lem ws s p r 0 j || loud_in_lem ws s p r 1 j || loud_in_lem ws s p r 2 j) (Err Loud)
    (Ok (record { day = share_of ws s p r 0; evening = share_of ws s p r 1; night = share_of ws s p r 2 })))

uncut : (ws : List Wall) (s : Source) (r : Receiver) (p : Piece) → s.course ≡ Uncut p → pair_of ws s r ≡ piece_alone ws s p r
unfolding pair_of bar_of
uncut ws s r p e =
    ap (λ (c : Course). pair_over (λ q i. share_of ws s q r i) (two_walls ws r) r (pieces_for r c)) e
    ∙ go (ltb (space_square p r) nearest) (ltb farthest (space_square p r)) (ltb (space_square p r) (4 * square p.length)) (two_walls ws r p)
  where
    go : (a b d t : Bool)
        → unless_barred (first_or (cond a (some Near) (cond b (some Far) (cond d (some Long) none))) none) (rest (t || false) (shares_over (λ q i. share_of ws s q r i) (p ∷ [])))
        ≡ cond a (Err Near) (cond b (Err Far) (cond d (Err Long) (cond t (Err Walls) (cond (loud_in ws s p r 0 || loud_in ws s p r 1 || loud_in ws s p r 2) (Err Loud) (Ok (shares_of ws s p r))))))
    go true b d t = refl
    go false true d t = refl
    go false false true t = refl
    go false false false true = refl
    go false false false false = alone ws s p r

-- a bar that is not for the length
abbrev Short : Option Bar → Type 0
Short none = Unit
Short (some Near) = Unit
Short (some Far) = Unit
Short (some Long) = ⊥
Short (some Loud) = Unit
Short (some Walls) = Unit

bar_short : (p : Piece) (r : Receiver) → (nearest ≤ space_square p r → Fits (space_square p r) p) → Short (bar_of p r)
bar_short p r f = go (dec_le nearest (space_square p r)) (dec_le (space_square p r) farthest)
  where
    go : Dec (nearest ≤ space_square p r) → Dec (space_square p r ≤ farthest) → Short (bar_of p r)
    go (no a) b = rw (bar_near p r (omega arith)) tt
    go (yes a) (no b) = rw (bar_far p r (omega arith)) tt
    go (yes a) (yes b) = rw (bar_none p r a b (f a)) tt

first_short : (r : Receiver) (ps : List Piece) → Every (λ p. nearest ≤ space_square p r → Fits (space_square p r) p) ps → Short (first_bar r ps)
first_short r [] h = tt
first_short r (p ∷ ps) h = go (bar_of p r) (bar_short p r h.0) (first_short r ps h.1)
  where
    go : (o : Option Bar) → Short o → Short (first_bar r ps) → Short (first_or o (first_bar r ps))
    go (some b) k l = k
    go none k l = l

abbrev NotLong : Pair → Type 0
NotLong (Ok h) = Unit
NotLong (Err b) = Short (some b)

never_long : (ws : List Wall) (s : Source) (r : Receiver) (e : Ends) → s.course ≡ Between e → pair_of ws s r ≢ Err Long
unfolding pair_of
never_long ws s r e c h =
    subst NotLong h
    (subst (λ (k : Course). NotLong (pair_over (λ p i. share_of ws s p r i) (two_walls ws r) r (pieces_for r k))) (sym c)
    (go (first_bar r ps) (first_short r ps (of_courses.fit (λ p. space_square p r) e))))
  where
    ps : List Piece
    ps = pieces_between (λ p. space_square p r) e

    x : Shares
    x = shares_over (λ p i. share_of ws s p r i) ps

    quiet : (t u : Bool) → NotLong (cond t (Err Walls) (cond u (Err Loud) (Ok x)))
    quiet true u = tt
    quiet false true = tt
    quiet false false = tt

    go : (o : Option Bar) → Short o → NotLong (unless_barred o (rest (any_of (two_walls ws r) ps) x))
    go (some b) k = k
    go none k = quiet (any_of (two_walls ws r) ps) (is_loud x)

-- the order of the walls
loss_order : {l m : List Wall} → Permᴰ l m → (p : Piece) (r : Receiver) → screen_between l p r ≡ screen_between m p r
unfolding screen_between loss_of
loss_order π p r = ap (loss_by (point p.x p.y) (point r.x r.y) r.height (plan_square p r) (space_square p r)) (met_any_order _ _ π)

share_order : {l m : List Wall} → Permᴰ l m → (s : Source) (p : Piece) (r : Receiver) (i : ℕ) → share_of l s p r i ≡ share_of m s p r i
unfolding share_of share_level
share_order π s p r i =
    ap (λ (k : Loss). cond (eqb (period s i).m 0) 0 (energy_share (
    emission_level s i ⊕ length_term p.length ⊕ distance_term (space_square p r) (root_of (space_square p r))
    ⊕ obstacle_term (ray_height r) (root_of (space_square p r)) (taken_off k)
    ⊕ walls_term s.walls s.height s.spacing ⊕ weather_term (weather_of i) (ray_height r) (root_of (plan_square p r))))) (loss_order π p r)

any_order : {l m : List Wall} → Permᴰ l m → pair_of l ≡ pair_of m
unfolding pair_of
any_order π = λ j s r. pair_over (λ p i. share_order π s p r i j) (λ p. is_twice (loss_order π p r j)) r (pieces_for r s.course)

pub of_pairs : Promises
of_pairs = record { uncut = uncut; never_long = never_long; any_order = any_order }

-- the case of an uncut piece that is in reach and nowhere loud
pub pair_heard : (ws : List Wall) (s : Source) (p : Piece) (r : Receiver) → s.course ≡ Uncut p
    → nearest ≤ space_square p r → space_square p r ≤ farthest → 4 * square p.length ≤ space_square p r → two_walls ws r p ≡ false
    → (loud_in ws s p r 0 || loud_in ws s p r 1 || loud_in ws s p r 2) ≡ false → pair_of ws s r ≡ Ok (shares_of ws s p r)
pair_heard ws s p r c a b h t e =
    uncut ws s r p c
    ∙ rw (le-ltb (space_square p r) nearest a, le-ltb farthest (space_square p r) b, le-ltb (space_square p r) (4 * square p.length) h, t, e) refl
