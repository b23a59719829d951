-- The rule of cutting without a count of halvings, and what holds of the uncut pieces. Assumes nothing.
use mathlib.Core.Path.{◌≡◌, refl, sym, ap₂, ◌∙◌}
use mathlib.Core.Bool.{Bool, true, false, cond, ◌&&◌}
use mathlib.Core.List.{List, [], ◌∷◌, ◌++◌}
use Prim.Native.Nat.{ℕ, zero, suc, ◌*◌, ◌≤◌, ◌<◌}
use native.Mathlib.Nat.{mul-le-mul}
use native.Mathlib.Decide.{dec_lt}
use native.Mathlib.Omega.{arith}
use lib.Dec.{ltb}
use Rattle.std.proofs.lemmas.Bool.{ltb-true, ltb-false, lt-ltb, and_parts}
use Rattle.course.specs.declared.Piece.{Piece}
use Rattle.course.specs.declared.Ends.{Ends}
use Rattle.course.specs.Course.{square, cut_above, length_of, one_piece, first_half, second_half, long, cut, pieces_between, Fits, Every, Promises}
use Rattle.course.proofs.Halves.{first_short, second_short}

and_right : (a b : Bool) → a ≡ true → (a && b) ≡ false → b ≡ false
and_right true b h e = e
and_right false b h e = absurd (let z : ◌≡◌ {A = ℕ} 0 1 = cc in omega arith)

module _ (far : Piece → ℕ) where
  pub long_above : (e : Ends) → long far e ≡ true → cut_above < length_of e
  unfolding long
  long_above e h = ltb-true cut_above (length_of e) (and_parts (ltb cut_above (length_of e)) _ h).0

  pub first_falls : (e : Ends) → long far e ≡ true → length_of (first_half e) < length_of e
  first_falls e h = omega (arith, first_short e, long_above e h)

  pub second_falls : (e : Ends) → long far e ≡ true → length_of (second_half e) < length_of e
  second_falls e h = omega (arith, second_short e, long_above e h)

  -- ---- one halving more, or none

  cut_more : (n : ℕ) (e : Ends) → long far e ≡ true → cut (suc n) far e ≡ cut n far (first_half e) ++ cut n far (second_half e)
  unfolding cut
  cut_more n e h = rw (h, cut)

  cut_none : (n : ℕ) (e : Ends) → long far e ≡ false → cut n far e ≡ one_piece e ∷ []
  unfolding cut
  cut_none zero e h = refl
  cut_none (suc n) e h = rw (h, cut)

  -- two counts of halvings that are both enough
  same : (n m : ℕ) (e : Ends) → length_of e ≤ n → length_of e ≤ m → cut n far e ≡ cut m far e
  same zero m e a b = go (long far e) refl
    where
      go : (t : Bool) → long far e ≡ t → cut zero far e ≡ cut m far e
      go true h = absurd (omega (arith, long_above e h))
      go false h = cut_none zero e h ∙ sym (cut_none m e h)
  same (suc n) zero e a b = go (long far e) refl
    where
      go : (t : Bool) → long far e ≡ t → cut (suc n) far e ≡ cut zero far e
      go true h = absurd (omega (arith, long_above e h))
      go false h = cut_none (suc n) e h ∙ sym (cut_none zero e h)
  same (suc n) (suc m) e a b = go (λ k. same n m k) (long far e) refl
    where
      go : ((k : Ends) → length_of k ≤ n → length_of k ≤ m → cut n far k ≡ cut m far k) → (t : Bool) → long far e ≡ t → cut (suc n) far e ≡ cut (suc m) far e
      go f true h =
          let u : length_of (first_half e) < length_of e = first_falls e h in
          let v : length_of (second_half e) < length_of e = second_falls e h in
          cut_more n e h
          ∙ ap₂ ◌++◌ (f (first_half e) (omega arith) (omega arith)) (f (second_half e) (omega arith) (omega arith))
          ∙ sym (cut_more m e h)
      go f false h = cut_none (suc n) e h ∙ sym (cut_none (suc m) e h)

  -- ---- the rule

  pub pieces_cut : (e : Ends) → long far e ≡ true → pieces_between far e ≡ pieces_between far (first_half e) ++ pieces_between far (second_half e)
  unfolding pieces_between
  pieces_cut e h =
      let n : ℕ = length_of e in
      let u : length_of (first_half e) < length_of e = first_falls e h in
      let v : length_of (second_half e) < length_of e = second_falls e h in
      same n (suc n) e (omega arith) (omega arith)
      ∙ cut_more n e h
      ∙ ap₂ ◌++◌ (same n _ (first_half e) (omega arith) (omega arith)) (same n _ (second_half e) (omega arith) (omega arith))

  pub pieces_uncut : (e : Ends) → long far e ≡ false → pieces_between far e ≡ one_piece e ∷ []
  unfolding pieces_between
  pieces_uncut e h = cut_none (length_of e) e h

  rule : (e : Ends) → pieces_between far e ≡ cond (long far e) (pieces_between far (first_half e) ++ pieces_between far (second_half e)) (one_piece e ∷ [])
  rule e = go (long far e) refl
    where
      go : (t : Bool) → long far e ≡ t → pieces_between far e ≡ cond t (pieces_between far (first_half e) ++ pieces_between far (second_half e)) (one_piece e ∷ [])
      go true h = pieces_cut e h
      go false h = pieces_uncut e h

  -- ---- what holds of the uncut pieces: shown for a road that is not long, and for a long one from its halves

  module _ (C : Ends → List Piece → Type 0)
      (none : (e : Ends) → long far e ≡ false → C e (one_piece e ∷ []))
      (more : (e : Ends) (a b : List Piece) → long far e ≡ true → C (first_half e) a → C (second_half e) b → C e (a ++ b)) where
    induct : (n : ℕ) (e : Ends) → length_of e ≤ n → C e (cut n far e)
    induct zero e l = go (long far e) refl
      where
        go : (t : Bool) → long far e ≡ t → C e (cut zero far e)
        go true h = absurd (omega (arith, long_above e h))
        go false h = rw (cut_none zero e h) (none e h)
    induct (suc n) e l = go (λ q. induct n q) (long far e) refl
      where
        go : ((q : Ends) → length_of q ≤ n → C q (cut n far q)) → (t : Bool) → long far e ≡ t → C e (cut (suc n) far e)
        go f true h =
            let u : length_of (first_half e) < length_of e = first_falls e h in
            let v : length_of (second_half e) < length_of e = second_falls e h in
            rw (cut_more n e h) (more e _ _ h (f (first_half e) (omega arith)) (f (second_half e) (omega arith)))
        go f false h = rw (cut_none (suc n) e h) (none e h)

    pub pieces_induct : (e : Ends) → C e (pieces_between far e)
    unfolding pieces_between
    pieces_induct e = induct (length_of e) e (omega arith)

  -- ---- no uncut piece is too long, but one that is nearer than 5 m

  every_append : (P : Piece → Type 0) (a b : List Piece) → Every P a → Every P b → Every P (a ++ b)
  every_append P [] b h l = l
  every_append P (p ∷ a) b h l = (h.0, every_append P a b h.1 l)

  uncut_fits : (e : Ends) → long far e ≡ false → square (2 * cut_above) ≤ far (one_piece e) → Fits (far (one_piece e)) (one_piece e)
  unfolding long one_piece
  uncut_fits e h q = go (dec_lt cut_above (length_of e))
    where
      go : Dec (cut_above < length_of e) → 4 * square (length_of e) ≤ far (one_piece e)
      go (yes l) = ltb-false _ _ (and_right (ltb cut_above (length_of e)) _ (lt-ltb _ _ l) h)
      go (no l) =
          let s : length_of e ≤ cut_above = omega arith in
          let t : square (length_of e) ≤ cut_above * cut_above = mul-le-mul s s in
          omega (arith, t)

  abbrev Fitting : Piece → Type 0
  Fitting p = square (2 * cut_above) ≤ far p → Fits (far p) p

  fit : (e : Ends) → Every Fitting (pieces_between far e)
  fit = pieces_induct (λ e ps. Every Fitting ps) (λ e h. (uncut_fits e h, tt)) (λ e a b h x y. every_append Fitting a b x y)

-- the promises of specs/Course.antt
pub of_courses : Promises
of_courses = record { rule = rule; first_falls = first_falls; second_falls = second_falls; fit = fit }
