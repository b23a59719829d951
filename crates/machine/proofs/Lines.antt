-- A line put into the output, and a record done with its line.
-- Assumes nothing.
use Prim.Native.Nat.{ℕ, ◌+◌, ◌-◌, ◌≤◌}
use mathlib.Core.Path.{◌≡◌, sym, ap, ap₂, ◌∙◌, subst}
use mathlib.Core.Bool.{Bool, false, cond}
use mathlib.Core.List.{List, [], ◌++◌, append-nil, append_assoc}
use native.Mathlib.Omega.{arith}
use borrow.Author.Tests.{le-ltb}
use lib.Dec.{ltb}
use lib.ListN.{length, take, drop, length-append, length-drop, drop_of_length-le}
use lib.Seq.{take_all, take_at, drop-drop, length-take-le}
use Rattle.layout.specs.Over.{over}
use Rattle.store.specs.Store.{damaged}
use Rattle.service.specs.Service.{Outcome}
use Rattle.service.specs.declared.Deed.{Deed}
use Rattle.service.specs.Service.{done_to}
use Rattle.service.proofs.Laws.{goes_within}
use Rattle.listing.specs.Listing.{line_room, put, line_of}
use Rattle.machine.specs.Inner.{TextPut, Entered, part}

-- ---- a line

module _ (t s : List ℕ) (at : ℕ) (h : at + line_room ≤ length s) where
  rest_length : length (drop at s) ≡ length s - at
  rest_length = length-drop at s

  -- there is room for it
  put_whole : put t (take (length s - at) (drop at s)) ≡ (length t, t ++ drop (at + length t) s)
  unfolding put
  put_whole =
      let e : take (length s - at) (drop at s) ≡ drop at s = take_all (length s - at) (drop at s) (omega (arith, rest_length)) in
      let f : ltb (length (drop at s)) line_room ≡ false = le-ltb (length (drop at s)) line_room (omega (arith, rest_length)) in
      ap (λ (r : List ℕ). put t r) e
      ∙ ap (λ (b : Bool). cond {A = ℕ × List ℕ} b (0, drop at s) (length t, t ++ drop (length t) (drop at s))) f
      ∙ ap (λ (r : List ℕ). (length t, t ++ r)) (drop-drop (length t) at s)

  -- what was lent comes back with it
  pub line_put : (n : ℕ) (sub : List ℕ) → (n, sub) ≡ put t (take (length s - at) (drop at s)) → length sub ≡ length (take (length s - at) (drop at s))
      → TextPut at t s (at + n) (take at s ++ (sub ++ drop (length s - at) (drop at s)))
  unfolding over
  line_put n sub e k =
      let q = e ∙ put_whole in
      let a : n ≡ length t = ap (λ (x : ℕ × List ℕ). x.0) q in
      let b : sub ≡ t ++ drop (at + length t) s = ap (λ (x : ℕ × List ℕ). x.1) q in
      let z : drop (length s - at) (drop at s) ≡ [] = drop_of_length-le (drop at s) {i = length s - at} (omega (arith, rest_length)) in
      let w : take (length s - at) (drop at s) ≡ drop at s = take_all (length s - at) (drop at s) (omega (arith, rest_length)) in
      record {
        next_is = ap (λ (x : ℕ). at + x) a;
        within = omega (arith, a, ap length b, length-append t (drop (at + length t) s), k, ap length w, rest_length);
        with_is = ap (λ (r : List ℕ). take at s ++ r) (ap₂ (λ (x y : List ℕ). x ++ y) b z ∙ append-nil (t ++ drop (at + length t) s));
      }

-- a line at the front of an output that has room
pub front_put : (t s u : List ℕ) (n : ℕ) → line_room ≤ length s → (n, u) ≡ put t s → length u ≡ length s → (n ≤ length u) × (take n u ≡ t)
unfolding put
front_put t s u n h e k =
    let f : ltb (length s) line_room ≡ false = le-ltb (length s) line_room h in
    let q = e ∙ ap (λ (b : Bool). cond {A = ℕ × List ℕ} b (0, s) (length t, t ++ drop (length t) s)) f in
    let a : n ≡ length t = ap (λ (x : ℕ × List ℕ). x.0) q in
    let b : u ≡ t ++ drop (length t) s = ap (λ (x : ℕ × List ℕ). x.1) q in
    (omega (arith, a, ap length b, length-append t (drop (length t) s)), ap (take n) b ∙ take_at t (drop (length t) s) n (sym a))

-- the output's front with a line more
pub front_longer : (out with line : List ℕ) (wrote to : ℕ) → wrote ≤ length out → TextPut wrote line out to with → take to with ≡ take wrote out ++ line
unfolding over
front_longer out with line wrote to h p =
    let r = drop (wrote + length line) out in
    let l : length (take wrote out) ≡ wrote = length-take-le wrote out h in
    ap (take to) (p.with_is ∙ sym (append_assoc (take wrote out) line r))
    ∙ take_at (take wrote out ++ line) r to (length-append (take wrote out) line ∙ omega (arith, l, p.next_is))

-- ---- one record

pub entered : (held store out sub : List ℕ) (at n place : ℕ) (r : Deed) (left : List ℕ) (to : ℕ) (with : List ℕ) → sub ≡ drop at held
    → (r, left) ≡ done_to sub store → damaged left ≡ false → TextPut place (line_of n r.outcome) out to with
    → Entered place n (drop at held) (done_to (drop at held) store) out (record { extent = r.extent; wrote = to }) left with
entered held store out sub at n place r left to with e q d p =
    let w : (r, left) ≡ done_to (drop at held) store = q ∙ ap (λ (s : List ℕ). done_to s store) e in
    let x : r.extent ≡ (done_to (drop at held) store).0.extent = ap (λ (o : Deed × List ℕ). o.0.extent) w in
    record {
      extent = x;
      extent_within = omega (arith, x, goes_within (drop at held) store);
      left_is = ap (λ (o : Deed × List ℕ). o.1) w;
      left_sound = d;
      line = subst (λ (o : Outcome). TextPut place (line_of n o) out to with) (ap (λ (o : Deed × List ℕ). o.0.outcome) w) p;
    }

-- ---- bytes at hand

pub part_length : (s : List ℕ) (from to : ℕ) → from ≤ to → to ≤ length s → length (part from to s) ≡ to - from
part_length s from to h l = length-take-le (to - from) (drop from s) (omega (arith, length-drop from s))
