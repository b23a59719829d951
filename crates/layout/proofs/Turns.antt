-- The turns of the loops: what holds before a turn holds after it. Assumes nothing.
use Prim.Native.Nat.{ℕ, suc, ◌+◌, ◌-◌, ◌*◌, ◌/◌, ◌%◌, ◌^◌, ◌≤◌, ◌<◌}
use mathlib.Core.Path.{◌≡◌, refl, sym, ap, ap₂, ◌∙◌}
use mathlib.Core.Bool.{Bool, true, false, ◌&&◌}
use mathlib.Core.List.{List, [], ◌∷◌, ◌++◌, append_assoc, append-nil}
use native.Mathlib.Nat.{mod-eq_of_lt, mod-lt, lt_of_lt_of_le, mul_assoc, add-mul, add_assoc, zero-mul, one-mul, sub-zero}
use native.Mathlib.Numerals.{add-one, unary_clauses}
use native.Mathlib.Omega.{arith}
use borrow.Author.Tests.{leb-true}
use Rattle.std.proofs.lemmas.Bool.{ltb-false}
use lib.Arith.{digits_lt}
use lib.Dec.{leb}
use lib.ListN.{length, get_or, take, drop, set, length-take, length-drop}
use lib.Pow.{pow_pos, pow_mono, pow-add, split, shl_exact}
use lib.Seq.{drop-cons, drop-length, take-length, take-suc-set}
use Rattle.std.specs.Int.{w64, from_be_bytes, to_be_bytes, byte_at, bytes_high_first}
use Rattle.std.specs.Prelude.{zero, nat_lt, cond, ◌⊎◌}
use Rattle.std.proofs.Common.{inl, inr, take-take, length-take-le}
use Rattle.layout.specs.Layout.{sum, pack, unpack, Within, Bytes, num, bytes_of, bits, size, sized, narrow, fields, packed}
use Rattle.layout.specs.Over.{over}
use Rattle.layout.proofs.Packing.{pack_lt}
use Rattle.layout.proofs.Numbers.{num_lt, num_none, num_snoc, bytes_take, bytes_of_cons, bytes_of_none, bytes_of_append, length_bytes_of, bits_take}
use Rattle.layout.proofs.Writes.{over_none, over_next, length_over}
use Rattle.layout.proofs.Bounds.{both}
use Rattle.layout.proofs.Laws.{sized_narrow, sized_whole, length_packed}

-- `number`: a byte more of t, and room for it
pub number_more : (t : List ℕ) (i acc b : ℕ) → i < length t → b ≡ get_or t i 0 → acc ≡ num (take i t) → acc * 256 + b ≡ num (take (i + 1) t)
number_more t i acc b h e a = ap₂ (λ (x y : ℕ). x * 256 + y) a e ∙ sym (num_snoc t i h)

pub number_lt : (t : List ℕ) (i : ℕ) → Bytes t → i ≤ 7 → num (take i t) < 2 ^ 56
number_lt t i b h =
    lt_of_lt_of_le (num_lt (take i t) (bytes_take i t b)) (pow_mono {i = 8 * length (take i t)} {j = 56} (rw length-take (omega arith)))

-- `field`: bytes read at once are bytes read one by one
pub number_eight : (t : List ℕ) → length t ≡ 8 → from_be_bytes w64 t ≡ num t
number_eight t e =
    let next : (i : ℕ) → i < 8 → num (take (i + 1) t) ≡ num (take i t) * 256 + get_or t i 0 = λ i l. num_snoc t i (omega (arith, e)) in
    let all : num (take 8 t) ≡ num t = ap num (ap (λ (k : ℕ). take k t) (sym e) ∙ take-length t) in
    omega (
      arith,
      num_none,
      all,
      next 0 (omega arith),
      next 1 (omega arith),
      next 2 (omega arith),
      next 3 (omega arith),
      next 4 (omega arith),
      next 5 (omega arith),
      next 6 (omega arith),
      next 7 (omega arith),
    )

-- the first eight bytes of what follows a place
pub eight_front : (s t : List ℕ) (at : ℕ) → 8 ≤ length (take (length s - at) (drop at s)) → t ≡ take 8 (take (length s - at) (drop at s))
    → from_be_bytes w64 t ≡ num (take 8 (drop at s))
eight_front s t at h e =
    let l : 8 ≤ length s - at = omega (arith, rw length-take at h) in
    let f : t ≡ take 8 (drop at s) = e ∙ take-take 8 (length s - at) (drop at s) l in
    number_eight t (ap length f ∙ length-take-le 8 (drop at s) (omega (arith, l, length-drop at s))) ∙ ap num f

-- `put_number`: the last n of the eight bytes of a number
bytes_high : (k : ℕ) → 256 ^ k ≡ 2 ^ (8 * k)
bytes_high zero = refl
bytes_high (suc k) =
    let e : 8 * suc k ≡ 8 * k + 8 = omega arith in
    rw (e, pow-add) (simp unary_clauses (ap (λ (y : ℕ). y * 256) (bytes_high k)))

byte_of : (k x : ℕ) → byte_at k x ≡ x / 2 ^ (8 * k) % 256
byte_of zero x = omega arith
byte_of (suc k) x = ap (λ (y : ℕ). x / y % 256) (bytes_high (suc k))

high_first : (k x : ℕ) → bytes_high_first k x ≡ bytes_of k x
high_first zero x = sym (bytes_of_none x)
high_first (suc k) x = ap₂ (λ (y : ℕ) (t : List ℕ). y ∷ t) (byte_of k x) (high_first k x) ∙ sym (bytes_of_cons k x)

last_bytes : (j k x : ℕ) → drop j (bytes_of (j + k) x) ≡ bytes_of k x
last_bytes zero k x = ap (λ (n : ℕ). bytes_of n x) (omega arith)
last_bytes (suc j) k x =
    let e : suc j + k ≡ suc (j + k) = omega arith in
    ap (λ (n : ℕ). drop (suc j) (bytes_of n x)) e ∙ ap (drop (suc j)) (bytes_of_cons (j + k) x) ∙ last_bytes j k x

pub number_bytes : (n x : ℕ) → n ≤ 8 → take (8 - (8 - n)) (drop (8 - n) (to_be_bytes w64 x)) ≡ bytes_of n x
number_bytes n x h =
    let e : 8 ≡ 8 - n + n = omega arith in
    let f : 8 - (8 - n) ≡ length (bytes_of n x) = omega (arith, length_bytes_of n x) in
    ap₂ take f (ap (drop (8 - n)) (high_first 8 x ∙ ap (λ (k : ℕ). bytes_of k x) e) ∙ last_bytes (8 - n) n x)
    ∙ take-length (bytes_of n x)

-- and of bytes that are those of a number which is x
pub same_bytes : (n x y : ℕ) (b : List ℕ) → b ≡ to_be_bytes w64 y → y ≡ x → n ≤ 8 → take (8 - (8 - n)) (drop (8 - n) b) ≡ bytes_of n x
same_bytes n x y b e f h = rw (e, f) (number_bytes n x h)

-- where nothing is left to write, it is written
pub number_done : (s t : List ℕ) (i left x : ℕ) → left ≤ 0 → over i (bytes_of left x) s ≡ t → s ≡ t
number_done s t i left x h e =
    let k : left ≡ 0 = omega arith in
    sym (ap (λ (n : ℕ). over i (bytes_of n x) s) k ∙ ap (λ (u : List ℕ). over i u s) (bytes_of_none x) ∙ over_none i s) ∙ e

-- `put_fields`: a shift by w loses nothing of what has room before w bits, also where w is a whole word
none_left : (x w : ℕ) → 64 ≤ w → x * 2 ^ w < 2 ^ 64 → x * 2 ^ w ≡ 0
none_left zero w h l = zero-mul (2 ^ w)
none_left (suc x) w h l =
    let k : 2 ^ 64 ≤ 2 ^ w = pow_mono h in
    absurd (omega (arith, k, l))

shl_by : (b : Bool) (x w : ℕ) → nat_lt w 64 ≡ b → x * 2 ^ w < 2 ^ 64 → cond b (x * 2 ^ w % 2 ^ 64) 0 ≡ x * 2 ^ w
shl_by true x w e l = mod-eq_of_lt l
shl_by false x w e l = sym (none_left x w (ltb-false w 64 e) l)

pub shl_whole : (x w : ℕ) → x * 2 ^ w < 2 ^ 64 → cond (nat_lt w 64) (x * 2 ^ w % 2 ^ 64) 0 ≡ x * 2 ^ w
shl_whole x w l = shl_by (nat_lt w 64) x w refl l

-- the field of a layout that is next, and the rest
narrow_here : (r w : ℕ) (ws : List ℕ) → narrow r (w ∷ ws) ≡ true → (1 ≤ w) × (r + w ≤ 64) × (narrow ((r + w) % 8) ws ≡ true)
narrow_here r w ws h =
    let s = both (leb 1 w) (leb (r + w) 64 && narrow ((r + w) % 8) ws) h in
    let t = both (leb (r + w) 64) (narrow ((r + w) % 8) ws) s.1 in
    (leb-true 1 w s.0, leb-true (r + w) 64 t.0, t.1)

module _ (ws : List ℕ) (i : ℕ) (h : i < length ws) where
  next : drop i ws ≡ get_or ws i 0 ∷ drop (i + 1) ws
  next = rw add-one (drop-cons ws i 0 h)

  pub sum_next : sum (drop i ws) ≡ get_or ws i 0 + sum (drop (i + 1) ws)
  sum_next = ap sum next

  pub narrow_next : (r : ℕ) → narrow r (drop i ws) ≡ true
      → (1 ≤ get_or ws i 0) × (r + get_or ws i 0 ≤ 64) × (narrow ((r + get_or ws i 0) % 8) (drop (i + 1) ws) ≡ true)
  narrow_next r n = narrow_here r (get_or ws i 0) (drop (i + 1) ws) (ap (narrow r) (sym next) ∙ n)

-- `take_fields`, after i fields and at bits: the values so far and the fields of the rest are those of the record
pub record Taken (s ws vs : List ℕ) (at i : ℕ) : Type 0 where
  pub room : at + sum (drop i ws) ≡ sum ws
  pub slim : narrow (at % 8) (drop i ws) ≡ true
  pub so_far : take i vs ++ unpack (drop i ws) (num (take (size ws) s)) ≡ fields ws s

pub taken_none : {s ws vs : List ℕ} {at : ℕ} → at ≡ 0 → sized ws ≡ true → Taken s ws vs at 0
unfolding fields
taken_none {ws = ws} e h = record { room = omega arith; slim = rw e (sized_narrow ws h); so_far = refl }

pub taken_room : {s ws vs : List ℕ} {at i w : ℕ} → Taken s ws vs at i → i < length ws → w ≡ get_or ws i 0
    → (1 ≤ w) × (at % 8 + w ≤ 64) × (at + w ≤ sum ws)
taken_room {ws = ws} {at = at} {i} t h e =
    let n = narrow_next ws i h (at % 8) t.slim in
    (omega arith, omega arith, omega (arith, sum_next ws i h))

pub taken_more : {s ws vs : List ℕ} {at i w x : ℕ} → Taken s ws vs at i → sized ws ≡ true → size ws ≤ length s → Bytes s
    → i < length ws → i < length vs → w ≡ get_or ws i 0 → x ≡ bits at w s → Taken s ws (set vs i x) (at + w) (i + 1)
taken_more {s} {ws} {vs} {at} {i} {w} {x} t h l b hi hv e f =
    let us = drop (i + 1) ws in
    let n = num (take (size ws) s) in
    let a : sum (drop i ws) ≡ w + sum us = sum_next ws i hi ∙ ap (λ (y : ℕ). y + sum us) (sym e) in
    let d : at + w + sum us ≡ 8 * size ws = omega (arith, sized_whole ws h) in
    let g : (at % 8 + get_or ws i 0) % 8 ≡ (at + w) % 8 = omega arith in
    let v : x ≡ n / 2 ^ sum us % 2 ^ get_or ws i 0 =
    f ∙ bits_take s at w (sum us) (size ws) b l d ∙ ap (λ (y : ℕ). n / 2 ^ sum us % 2 ^ y) e in
    let k : take (i + 1) (set vs i x) ≡ take i vs ++ (x ∷ []) = rw add-one (take-suc-set vs i x hv) in
    record {
      room = omega arith;
      slim = rw (← g) (narrow_next ws i hi (at % 8) t.slim).2;
      so_far =
          ap (λ (l : List ℕ). l ++ unpack us n) k
          ∙ append_assoc (take i vs) (x ∷ []) (unpack us n)
          ∙ ap (λ (y : ℕ). take i vs ++ (y ∷ unpack us n)) v
          ∙ ap (λ (l : List ℕ). take i vs ++ unpack l n) (sym (next ws i hi))
          ∙ t.so_far;
    }

pub taken_all : {s ws vs : List ℕ} {at i : ℕ} → Taken s ws vs at i → i ≡ length ws → length vs ≡ length ws → vs ≡ fields ws s
taken_all {s} {ws} {vs} {at} {i} t e f =
    let n = num (take (size ws) s) in
    let g : i ≡ length vs = e ∙ sym f in
    sym (ap₂ (λ (a b : List ℕ). a ++ unpack b n)
    (ap (λ (k : ℕ). take k vs) g ∙ take-length vs) (ap (λ (k : ℕ). drop k ws) e ∙ drop-length ws)
    ∙ append-nil vs)
    ∙ t.so_far

-- `put_fields`, after at bytes, with the have bits of acc in hand: to write these and the fields gs that are left, of widths us, is to write the record
pub record Sent (out₀ ws vs out : List ℕ) (at have acc : ℕ) (us gs : List ℕ) : Type 0 where
  pub room : 8 * at + (have + sum us) ≡ sum ws
  pub slim : narrow have us ≡ true
  pub part : have < 8
  pub small : acc < 2 ^ have
  pub fit : Within us gs
  pub same : length out ≡ length out₀
  pub to_come : over at (bytes_of (size ws - at) (acc * 2 ^ sum us + pack us gs)) out ≡ over 0 (packed ws vs) out₀

pub sent_none : {out ws vs : List ℕ} → sized ws ≡ true → Within ws vs → Sent out ws vs out 0 0 0 ws vs
unfolding packed
sent_none {out} {ws} {vs} h f =
    let e : 0 * 2 ^ sum ws + pack ws vs ≡ pack ws vs = omega (arith, zero-mul (2 ^ sum ws)) in
    record {
      room = omega arith;
      slim = sized_narrow ws h;
      part = omega arith;
      small = omega arith;
      fit = f;
      same = refl;
      to_come = ap₂ (λ (k n : ℕ). over 0 (bytes_of k n) out) (sub-zero (size ws)) e;
    }

-- a number of w bits after acc, split into its last h bits and those before them
spill : (acc w v t p h : ℕ)
    → acc * 2 ^ (w + t) + (v * 2 ^ t + p) ≡ (acc * 2 ^ w + v) / 2 ^ h * 2 ^ (h + t) + ((acc * 2 ^ w + v) % 2 ^ h * 2 ^ t + p)
spill acc w v t p h =
    let x = acc * 2 ^ w + v in
    let a : acc * 2 ^ (w + t) + (v * 2 ^ t + p) ≡ x * 2 ^ t + p = simp (pow-add, add-mul, mul_assoc, add_assoc) in
    let b : x / 2 ^ h * 2 ^ (h + t) + (x % 2 ^ h * 2 ^ t + p) ≡ (x / 2 ^ h * 2 ^ h + x % 2 ^ h) * 2 ^ t + p =
    simp (pow-add, add-mul, mul_assoc, add_assoc) in
    a ∙ ap (λ (y : ℕ). y * 2 ^ t + p) (sym (split x h)) ∙ sym b

-- a turn, in which the width w and the value v are next
module _ {out₀ ws vs out : List ℕ} {at have acc : ℕ} {us gs : List ℕ} (t : Sent out₀ ws vs out at have acc us gs)
    {w v : ℕ} {us' gs' : List ℕ} (e : us ≡ w ∷ us') (f : gs ≡ v ∷ gs') where
  pub sent_room : (1 ≤ w) × (have + w ≤ 64) × (8 * at + (have + w) ≤ sum ws)
  sent_room =
      let n = narrow_here have w us' (ap (narrow have) (sym e) ∙ t.slim) in
      (n.0, n.1, omega (arith, t.room, ap sum e))

  next_fit : (v < 2 ^ w) × Within us' gs'
  next_fit =
      let g : Within us gs = t.fit in
      rw (e, f) at g

  sent_small : acc * 2 ^ w + v < 2 ^ (have + w)
  sent_small = rw pow-add (digits_lt t.small next_fit.0)

  -- the bits in hand and the next field make a number of a word
  pub sent_word : {y : ℕ} → y ≡ cond (nat_lt w 64) (acc * 2 ^ w % 2 ^ 64) 0 → (y ≡ acc * 2 ^ w) × (acc * 2 ^ w + v < 2 ^ 64)
  sent_word h =
      let small = lt_of_lt_of_le sent_small (pow_mono {j = 64} sent_room.1) in
      (h ∙ shl_whole acc w (omega (arith, small)), small)

  pub sent_more : {x n h : ℕ} → sized ws ≡ true → size ws ≤ length out₀ → x ≡ acc * 2 ^ w + v → n ≡ (have + w) / 8 → h ≡ (have + w) % 8
      → Sent out₀ ws vs (over at (bytes_of n (x / 2 ^ h)) out) (at + n) h (x % 2 ^ h) us' gs'
  sent_more {x} {n} {h} z l g en eh =
      let k = size ws - (at + n) in
      let b = bytes_of n (x / 2 ^ h) in
      let m = x % 2 ^ h * 2 ^ sum us' + pack us' gs' in
      let whole : 8 * size ws ≡ sum ws = sized_whole ws z in
      let lb : length b ≡ n = length_bytes_of n (x / 2 ^ h) in
      let r : 8 * at + (have + sum us) ≡ sum ws = t.room in
      let a : sum us ≡ w + sum us' = ap sum e in
      let u : 8 * k ≡ h + sum us' = omega arith in
      let c : size ws - at ≡ n + k = omega arith in
      let lt : m < 2 ^ (8 * k) = rw (u, pow-add) (digits_lt (mod-lt x (pow_pos h)) (pack_lt us' gs' next_fit.1)) in
      let all : acc * 2 ^ sum us + pack us gs ≡ x / 2 ^ h * 2 ^ (8 * k) + m = rw (e, f, g, u) (spill acc w v (sum us') (pack us' gs') h) in
      let same' : length out ≡ length out₀ = t.same in
      record {
        room = omega arith;
        slim = rw eh (narrow_here have w us' (ap (narrow have) (sym e) ∙ t.slim)).2;
        part = omega arith;
        small = mod-lt x (pow_pos h);
        fit = next_fit.1;
        same = length_over at b out (omega arith) (omega arith) ∙ t.same;
        to_come =
            ap (λ (y : ℕ). over (at + y) (bytes_of k m) (over at b out)) (sym lb)
            ∙ over_next at b out (omega arith) (bytes_of k m)
            ∙ ap (λ (y : List ℕ). over at y out) (sym (bytes_of_append n k (x / 2 ^ h) m lt))
            ∙ ap₂ (λ (j y : ℕ). over at (bytes_of j y) out) (sym c) (sym all)
            ∙ t.to_come;
      }

-- where the widths or the values run out, both have: the record is written
none_left_of : (us gs : List ℕ) → Within us gs → (length us ≡ 0) ⊎ (length gs ≡ 0) → sum us ≡ 0
none_left_of [] gs f e = refl
none_left_of (u ∷ us) [] f e = elim f [ ]
none_left_of (u ∷ us) (g ∷ gs) f (inl e) = absurd (omega (arith, e))
none_left_of (u ∷ us) (g ∷ gs) f (inr e) = absurd (omega (arith, e))

pub sent_all : {out₀ ws vs out : List ℕ} {at have acc : ℕ} {us gs : List ℕ} → Sent out₀ ws vs out at have acc us gs → sized ws ≡ true
    → (length us ≡ 0) ⊎ (length gs ≡ 0) → out ≡ packed ws vs ++ drop (size ws) out₀
unfolding over
sent_all {out₀} {ws} {vs} {out} {at} {have} {acc} {us} {gs} t z e =
    let a : sum us ≡ 0 = none_left_of us gs t.fit e in
    let b : size ws - at ≤ 0 = omega (arith, sized_whole ws z, t.room) in
    let c : 0 + length (packed ws vs) ≡ size ws = omega (arith, length_packed ws vs) in
    number_done out (over 0 (packed ws vs) out₀) at (size ws - at) _ b t.to_come
    ∙ ap (λ (k : ℕ). packed ws vs ++ drop k out₀) c

pub one_shl : (h : ℕ) → h < 8 → 1 * 2 ^ h % 2 ^ 64 ≡ 2 ^ h
one_shl h l = shl_exact {a = 1} 1 h 64 (omega arith) (omega arith) ∙ one-mul (2 ^ h)
