-- What of a road reaches a point (VBUS sections 3.3, 3.4 and 3.6 to 3.10, METHOD 7 and 9): the share level of a piece, its terms,
-- the road's pieces, and the pair's answer. Lengths are in cm. `root_of` is the root, down.
use Rattle.std.specs.Prelude.{ℕ, ◌+◌, ◌-◌, ◌*◌, ◌/◌, min, max, ◌≡◌, ◌≢◌, Bool, false, cond, ◌||◌, get_or, leb, ltb, eqb, Ok, Err}
use Rattle.std.proofs.Math.Option.{Option, none, some}
use mathlib.Core.List.{List, [], ◌∷◌, Permᴰ}
use Rattle.level.specs.Level.{lv_of, energy_at}
use Rattle.root.specs.Root.{root_of}
use Rattle.course.specs.declared.Piece.{Piece}
use Rattle.course.specs.declared.Ends.{Ends}
use Rattle.course.specs.declared.Course.{Course}
use Rattle.course.specs.declared.Course.TheVariants.{Uncut, Between}
use Rattle.course.specs.Course.{square, plan_between, pieces_of}
use Rattle.screen.specs.declared.Wall.{Wall}
use Rattle.screen.specs.Plan.{point}
use Rattle.screen.specs.Screen.{Loss, loss_of, is_twice, taken_off}
use Rattle.road.specs.declared.Term.{Term}
use Rattle.road.specs.declared.Source.{Source}
use Rattle.road.specs.declared.Receiver.{Receiver}
use Rattle.road.specs.declared.Shares.{Shares}
use Rattle.road.specs.declared.Bar.{Bar}
use Rattle.road.specs.declared.Bar.TheVariants.{Near, Far, Long, Loud, Walls}
use Rattle.road.specs.Results.{Pair}
use Rattle.road.specs.Term.{term, adds, takes, ◌⊕◌, period}
use Rattle.road.specs.Emission.{emission_level}
use Rattle.road.specs.Pairs.{most_share}

-- ---- the squared distances from the middle of a piece: in the plan, Q0, and in space, Q

-- how high above the road the source is
abbrev pub source_height : ℕ
source_height = 50

unfoldable pub plan_square : Piece → Receiver → ℕ
plan_square p r = plan_between p.x p.y r.x r.y

unfoldable pub space_square : Piece → Receiver → ℕ
space_square p r = plan_square p r + square (r.height - source_height)

-- ---- how near and how far apart, and how loud a pair may be: squared distances, and a level

-- 5 m
abbrev pub nearest : ℕ
nearest = square 500

-- 2 km
abbrev pub farthest : ℕ
farthest = square 200000

abbrev pub loudest : ℕ
loudest = 9000

-- ---- section 3.4: the length of the piece

unfoldable pub length_term : ℕ → Term
length_term l = term (lv_of l) 2000

-- ---- section 3.6, equation 10: distance and air, by Q and its root r

unfoldable pub distance_term : ℕ → ℕ → Term
distance_term q r = term (4000 + 1120) (lv_of q + r / 200)

-- ---- section 3.7, equations 11 and 12: ground, by H, twice the mean height of the ray, and r

unfoldable pub ground_term : ℕ → ℕ → Term
ground_term h r = takes (480 - h * (1700 * r + 3000000) / square r)

-- ---- section 3.8, equations 13 and 14: parallel walls, reflecting or absorbing

unfoldable pub walls_term : ℕ → ℕ → ℕ → Term
walls_term kind height spacing =
    adds
    (cond (eqb kind 1) (min 320 (400 * height / spacing))
    (cond (eqb kind 2) (min 160 (200 * height / spacing)) 0))

-- ---- section 3.9, equations 15 to 19: the noise walls ws between the middle of a piece and the point (screen's specs/Section.antt)

unfoldable pub screen_between : List Wall → Piece → Receiver → Loss
screen_between ws p r = loss_of (point p.x p.y) (point r.x r.y) r.height (plan_square p r) (space_square p r) ws

-- the larger of ground and screening is taken off
unfoldable pub obstacle_term : ℕ → ℕ → ℕ → Term
obstacle_term h r screening = takes (max screening (ground_term h r).down)

-- ---- section 3.10, equation 20: weather, by the period's C, H and the root r0 of Q0

abbrev pub weather_of : ℕ → ℕ
weather_of i = get_or (200 ∷ 100 ∷ 0 ∷ []) i 0

unfoldable pub weather_term : ℕ → ℕ → ℕ → Term
weather_term c h r0 = takes (cond (leb r0 (10 * h)) 0 (c * (r0 - 10 * h) / r0))

-- ---- section 3.4, equation 6: the share level of a piece of a road in the period i, among the walls ws

abbrev pub ray_height : Receiver → ℕ
ray_height r = r.height + source_height

unfoldable pub share_level : List Wall → Source → Piece → Receiver → ℕ → Term
share_level ws s p r i =
    emission_level s i
    ⊕ length_term p.length
    ⊕ distance_term (space_square p r) (root_of (space_square p r))
    ⊕ obstacle_term (ray_height r) (root_of (space_square p r)) (taken_off (screen_between ws p r))
    ⊕ walls_term s.walls s.height s.spacing
    ⊕ weather_term (weather_of i) (ray_height r) (root_of (plan_square p r))

-- the energy of a share level, which may lie below zero (METHOD 5)
unfoldable pub energy_share : Term → ℕ
energy_share t = energy_at t.up t.down

-- a period without traffic has no share
unfoldable pub share_of : List Wall → Source → Piece → Receiver → ℕ → ℕ
share_of ws s p r i = cond (eqb (period s i).m 0) 0 (energy_share (share_level ws s p r i))

-- ---- the pieces of a road for a point (METHOD 7), and what they bring: their shares in each period, added up

abbrev pub pieces_for : Receiver → Course → List Piece
pieces_for r c = pieces_of (λ p. space_square p r) c

abbrev pub sum_of : (Piece → ℕ) → List Piece → ℕ
sum_of f [] = 0
sum_of f (p ∷ ps) = f p + sum_of f ps

-- f p i is the share of the piece p in the period i
abbrev pub shares_over : (Piece → ℕ → ℕ) → List Piece → Shares
shares_over f ps = record { day = sum_of (λ p. f p 0) ps; evening = sum_of (λ p. f p 1) ps; night = sum_of (λ p. f p 2) ps }

-- ---- the pair: bars 10 to 14, or the three shares (section 3.3 for the length)

-- what bars a piece by its place and its length
unfoldable pub bar_of : Piece → Receiver → Option Bar
bar_of p r =
    cond (ltb (space_square p r) nearest) (some Near)
    (cond (ltb farthest (space_square p r)) (some Far)
    (cond (ltb (space_square p r) (4 * square p.length)) (some Long)
    none))

-- the bar of the first piece that has one
abbrev pub first_or : Option Bar → Option Bar → Option Bar
first_or (some b) o = some b
first_or none o = o

abbrev pub first_bar : Receiver → List Piece → Option Bar
first_bar r [] = none
first_bar r (p ∷ ps) = first_or (bar_of p r) (first_bar r ps)

-- 14: more than one wall counts for a piece
abbrev pub any_of : (Piece → Bool) → List Piece → Bool
any_of f [] = false
any_of f (p ∷ ps) = f p || any_of f ps

abbrev pub unless_walls : Bool → Pair → Pair
unless_walls two q = cond two (Err Walls) q

-- 13: a share is above 90.00 dB
abbrev pub unless_loud : Shares → Pair
unless_loud h = cond (ltb most_share h.day || ltb most_share h.evening || ltb most_share h.night) (Err Loud) (Ok h)

abbrev pub unless_barred : Option Bar → Pair → Pair
unless_barred (some b) q = Err b
unless_barred none q = q

-- two p: more than one wall counts for the piece p
abbrev pub pair_over : (Piece → ℕ → ℕ) → (Piece → Bool) → Receiver → List Piece → Pair
pair_over f two r ps = unless_barred (first_bar r ps) (unless_walls (any_of two ps) (unless_loud (shares_over f ps)))

abbrev pub two_walls : List Wall → Receiver → Piece → Bool
two_walls ws r p = is_twice (screen_between ws p r)

unfoldable pub pair_of : List Wall → Source → Receiver → Pair
pair_of ws s r = pair_over (λ p i. share_of ws s p r i) (two_walls ws r) r (pieces_for r s.course)

-- ---- what is promised of the two courses

abbrev pub too_loud : Term → Bool
too_loud t = ltb loudest (t.up - t.down)

-- a period without traffic is not loud
unfoldable pub loud_in : List Wall → Source → Piece → Receiver → ℕ → Bool
loud_in ws s p r i = cond (eqb (period s i).m 0) false (too_loud (share_level ws s p r i))

unfoldable pub shares_of : List Wall → Source → Piece → Receiver → Shares
shares_of ws s p r = record { day = share_of ws s p r 0; evening = share_of ws s p r 1; night = share_of ws s p r 2 }

-- a piece by itself, with bar 13 by its levels: one of them above 90.00 dB
abbrev pub piece_alone : List Wall → Source → Piece → Receiver → Pair
piece_alone ws s p r =
    cond (ltb (space_square p r) nearest) (Err Near)
    (cond (ltb farthest (space_square p r)) (Err Far)
    (cond (ltb (space_square p r) (4 * square p.length)) (Err Long)
    (cond (two_walls ws r p) (Err Walls)
    (cond (loud_in ws s p r 0 || loud_in ws s p r 1 || loud_in ws s p r 2) (Err Loud)
    (Ok (shares_of ws s p r))))))

pub record Promises : Type 0 where
  -- a road that is told by its middle and its length is that piece by itself
  pub uncut : (ws : List Wall) (s : Source) (r : Receiver) (p : Piece) → s.course ≡ Uncut p → pair_of ws s r ≡ piece_alone ws s p r
  -- and one that is told by its ends is never barred for its length
  pub never_long : (ws : List Wall) (s : Source) (r : Receiver) (e : Ends) → s.course ≡ Between e → pair_of ws s r ≢ Err Long
  -- in which order the walls stand does not matter
  pub any_order : {l m : List Wall} → Permᴰ l m → pair_of l ≡ pair_of m
