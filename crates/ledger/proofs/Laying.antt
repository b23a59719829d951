-- The standing walls: those of the slots so far stand in front, and after the last slot they are all. Assumes nothing.
use mathlib.Core.Path.{◌≡◌, refl, sym, ap, ◌∙◌, subst}
use mathlib.Core.Option.{Option, none, some}
use mathlib.Core.List.{List, [], ◌∷◌, ◌++◌, append-nil}
use Prim.Native.Nat.{ℕ, suc, ◌+◌, ◌≤◌, ◌<◌}
use native.Mathlib.Omega.{arith}
use lib.ListN.{length, get_or, set, take}
use Rattle.std.proofs.lemmas.List.{take_all, take_more, take_more_set}
use Rattle.std.proofs.lemmas.List.Elements.{All-nil, All-cons}
use Rattle.screen.specs.declared.Wall.{Wall}
use Rattle.screen.specs.Plan.{WallOnPlan}
use Rattle.screen.specs.Screen.{AllOnPlan}
use Rattle.road.proofs.Fit.{fit_wall}
use Rattle.store.specs.Slots.{Each}
use Rattle.store.specs.Store.{WallStands}
use Rattle.ledger.specs.Lists.{present}

-- ---- the loop: the first n walls are those of the first i slots

pub record Laying (l : List (Option Wall)) (walls : List Wall) (n i : ℕ) : Type 0 where
  pub room : n ≤ i
  pub first : take n walls ≡ present (take i l)

present_append : (l m : List (Option Wall)) → present (l ++ m) ≡ present l ++ present m
present_append [] m = refl
present_append (none ∷ l) m = present_append l m
present_append (some w ∷ l) m = ap (λ (ws : List Wall). w ∷ ws) (present_append l m)

module _ (l : List (Option Wall)) (walls : List Wall) (n i : ℕ) (h : i < length l) (g : Laying l walls n i) where
  present_more : (o : Option Wall) → o ≡ get_or l i none → present (take (i + 1) l) ≡ take n walls ++ present (o ∷ [])
  present_more o e =
      ap present (take_more l i none h) ∙ present_append (take i l) _
      ∙ (λ j. sym g.first j ++ present (sym e j ∷ []))

  pub laying_free : none ≡ get_or l i none → Laying l walls n (i + 1)
  laying_free e = record {
    room = omega (arith, g.room);
    first = sym (append-nil (take n walls)) ∙ sym (present_more none e);
  }

  pub laying_wall : (w : Wall) → some w ≡ get_or l i none → n < length walls → Laying l (set walls n w) (n + 1) (i + 1)
  laying_wall w e m = record {
    room = omega (arith, g.room);
    first = take_more_set walls n w m ∙ sym (present_more (some w) e);
  }

-- ---- walls that stand can be lent

all_on_plan : (l : List (Option Wall)) → Each WallStands l → AllOnPlan (present l)
all_on_plan [] h = All-nil WallOnPlan
all_on_plan (none ∷ l) h = all_on_plan l (λ i. h (suc i))
all_on_plan (some w ∷ l) h = All-cons WallOnPlan w (present l) (fit_wall w (h 0 w refl)) (all_on_plan l (λ i. h (suc i)))

-- after the last slot
module _ (l : List (Option Wall)) (walls : List Wall) (n i : ℕ) (m : length l ≤ i) (g : Laying l walls n i) where
  pub laying_all : take n walls ≡ present l
  laying_all = g.first ∙ ap present (take_all i l m)

  pub laying_on_plan : Each WallStands l → AllOnPlan (take n walls)
  laying_on_plan h = subst AllOnPlan (sym laying_all) (all_on_plan l h)
