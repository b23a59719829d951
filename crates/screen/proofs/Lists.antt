-- The walls that count: what is met so far, put before what is still to be looked at. Assumes nothing.
use mathlib.Core.Path.{◌≡◌, refl, sym, ap, ◌∙◌, subst}
use Rattle.std.specs.Prelude.{Some}
use mathlib.Core.Bool.{Bool, true, false, cond}
use mathlib.Core.List.{List, [], ◌∷◌, Permᴰ}
use Prim.Native.Nat.{ℕ, ◌≤◌}
use native.Mathlib.Omega.{arith}
use Rattle.std.specs.List.{fold}
use Rattle.std.proofs.lemmas.List.Elements.{All-head, All-tail}
use Rattle.screen.specs.declared.Point.{Point}
use Rattle.screen.specs.declared.Wall.{Wall}
use Rattle.screen.specs.declared.Met.{Met}
use Rattle.screen.specs.declared.Met.TheVariants.{Nothing, One, Several}
use Rattle.screen.specs.Plan.{WallOnPlan, counts, fraction_of}
use Rattle.screen.specs.Section.{Reaches, section_of, screening, screening_of}
use Rattle.screen.specs.Screen.{between, told, met_of, loss_by, loss_of, one_more, look_at, AllOnPlan}
use Rattle.screen.proofs.Lines.{fraction_proper}
use Rattle.screen.proofs.Heights.{section_upright, screening_most}

-- ---- what is met, and then a list of walls that count

abbrev pub before : Met → List Wall → Met
before Nothing ws = told ws
before (One w) ws = told (w ∷ ws)
before Several ws = Several

before_more : (m : Met) (w : Wall) (ws : List Wall) → before (one_more m w) ws ≡ before m (w ∷ ws)
before_more Nothing w ws = refl
before_more (One v) w ws = refl
before_more Several w ws = refl

before_end : (m : Met) → before m [] ≡ m
before_end Nothing = refl
before_end (One w) = refl
before_end Several = refl

looked : (p r : Point) (m : Met) (w : Wall) (ws : List Wall) → before (look_at p r m w) (between p r ws) ≡ before m (between p r (w ∷ ws))
unfolding between
looked p r m w ws = go (counts p r w)
  where
    go : (b : Bool) → before (cond b (one_more m w) m) (between p r ws) ≡ before m (cond b (w ∷ between p r ws) (between p r ws))
    go true = before_more m w (between p r ws)
    go false = refl

-- ---- the loop: all walls looked at, one after the other, tell what is met

looked_from : (p r : Point) (m : Met) (ws : List Wall) → fold (look_at p r) m ws ≡ before m (between p r ws)
unfolding between
looked_from p r m [] = sym (before_end m)
looked_from p r m (w ∷ ws) = looked_from p r (look_at p r m w) ws ∙ looked p r m w ws

pub looked_all : (p r : Point) (ws : List Wall) → fold (look_at p r) Nothing ws ≡ met_of p r ws
unfolding met_of
looked_all p r ws = looked_from p r Nothing ws

-- ---- the one that counts, where there is one: it counts, and it is one of the walls

pub record Chosen (p r : Point) (w : Wall) : Type 0 where
  pub counted : counts p r w ≡ true
  pub stands : WallOnPlan w

first : (p r : Point) (ws : List Wall) (w : Wall) (vs : List Wall) → AllOnPlan ws → between p r ws ≡ w ∷ vs → Chosen p r w
unfolding between
first p r [] w vs h e = absurd (let z : ◌≡◌ {A = ℕ} 0 1 = cc in omega arith)
first p r (v ∷ ws) w vs h e = go (counts p r v) refl e (first p r ws w vs (All-tail WallOnPlan v ws h))
  where
    go : (b : Bool) → counts p r v ≡ b → cond b (v ∷ between p r ws) (between p r ws) ≡ w ∷ vs → (between p r ws ≡ w ∷ vs → Chosen p r w) → Chosen p r w
    go true c e f = let s : v ≡ w = cc in subst (Chosen p r) s (record { counted = c; stands = All-head WallOnPlan v ws h })
    go false c e f = f e

told_one : (l : List Wall) (w : Wall) → told l ≡ One w → l ≡ w ∷ []
told_one [] w e = absurd (let z : ◌≡◌ {A = ℕ} 0 1 = cc in omega arith)
told_one (v ∷ []) w e = let s : v ≡ w = cc in rw s
told_one (v ∷ u ∷ l) w e = absurd (let z : ◌≡◌ {A = ℕ} 0 1 = cc in omega arith)

pub one_chosen : (p r : Point) (ws : List Wall) (w : Wall) → AllOnPlan ws → met_of p r ws ≡ One w → Chosen p r w
unfolding met_of
one_chosen p r ws w h e = first p r ws w [] h (told_one (between p r ws) w e)

-- ---- what walls take off is less than 60 dB

pub loss_most : (p r : Point) (height q0 q : ℕ) (ws : List Wall) (d : ℕ) → AllOnPlan ws → Reaches height q0 q
    → loss_of p r height q0 q ws ≡ Some d → d ≤ 6000
unfolding loss_of screening_of
loss_most p r height q0 q ws d h e f = go (met_of p r ws) refl f
  where
    go : (m : Met) → met_of p r ws ≡ m → loss_by p r height q0 q m ≡ Some d → d ≤ 6000
    go Nothing k f = let n : 0 ≡ d = cc in omega arith
    go (One w) k f =
        let c = one_chosen p r ws w h k in
        let n : screening (section_of q0 q (fraction_of p r w) height w.height) ≡ d = cc in
        let u = section_upright q0 q (fraction_of p r w) height w.height e (fraction_proper p r w c.counted).below c.stands.low in
        omega (arith, screening_most _ u)
    go Several k f = absurd (let z : ◌≡◌ {A = ℕ} 0 1 = cc in omega arith)

-- ---- the order of the walls does not matter

-- what is met with a wall more, where it counts
abbrev added : Bool → Wall → Met → Met
added b w m = cond b (one_more m w) m

told_more : (w : Wall) (ws : List Wall) → told (w ∷ ws) ≡ one_more (told ws) w
told_more w [] = refl
told_more w (v ∷ []) = refl
told_more w (v ∷ u ∷ ws) = refl

met_more : (p r : Point) (w : Wall) (ws : List Wall) → met_of p r (w ∷ ws) ≡ added (counts p r w) w (met_of p r ws)
unfolding met_of between
met_more p r w ws = go (counts p r w)
  where
    go : (b : Bool) → told (cond b (w ∷ between p r ws) (between p r ws)) ≡ added b w (told (between p r ws))
    go true = told_more w (between p r ws)
    go false = refl

both_more : (w v : Wall) (m : Met) → one_more (one_more m v) w ≡ one_more (one_more m w) v
both_more w v Nothing = refl
both_more w v (One u) = refl
both_more w v Several = refl

added_both : (a b : Bool) (w v : Wall) (m : Met) → added a w (added b v m) ≡ added b v (added a w m)
added_both true true w v m = both_more w v m
added_both true false w v m = refl
added_both false true w v m = refl
added_both false false w v m = refl

pub met_any_order : (p r : Point) {l m : List Wall} → Permᴰ l m → met_of p r l ≡ met_of p r m
met_any_order p r Permᴰ.nil = refl
met_any_order p r (Permᴰ.cons {a} {b} {l₁} {l₂} e d) =
    met_more p r a l₁ ∙ (λ i. added (counts p r (e i)) (e i) (met_any_order p r d i)) ∙ sym (met_more p r b l₂)
met_any_order p r (Permᴰ.swap {a} {b} {a'} {b'} {l} e f) =
    met_more p r a (b ∷ l) ∙ ap (added (counts p r a) a) (met_more p r b l)
    ∙ added_both (counts p r a) (counts p r b) a b (met_of p r l)
    ∙ (λ i. added (counts p r (f i)) (f i) (added (counts p r (e i)) (e i) (met_of p r l)))
    ∙ sym (ap (added (counts p r a') a') (met_more p r b' l)) ∙ sym (met_more p r a' (b' ∷ l))
met_any_order p r (Permᴰ.trans d e) = met_any_order p r d ∙ met_any_order p r e
