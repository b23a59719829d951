-- A record by the daily figure comes to what the record of its counts comes to.
-- Assumes nothing.
use Rattle.std.specs.Prelude.{Ok, Err}
use Prim.Native.Nat.{ℕ, suc, ◌+◌, ◌^◌, ◌≤◌, ◌<◌}
use mathlib.Core.Path.{◌≡◌, refl, sym, ap, ◌∙◌}
use mathlib.Core.List.{List, [], ◌∷◌, ◌++◌, append-nil}
use native.Mathlib.Omega.{arith}
use lib.Dec.{lit<}
use lib.ListN.{length, take, drop}
use lib.Seq.{length-take-le, take-add}
use Rattle.layout.specs.Layout.{Bytes, size, packed, Within}
use Rattle.layout.proofs.Packing.{within_length, within_at, within_append}
use Rattle.layout.proofs.Laws.{fields_within}
use Rattle.course.specs.declared.Piece.{Piece}
use Rattle.course.specs.declared.Course.TheVariants.{Uncut}
use Rattle.road.specs.declared.Source.{Source}
use Rattle.road.specs.Results.{Verdict}
use Rattle.road.specs.Fields.{piece_table, road_table, traffic_table, source_table, piece_of, values_by, bits_by}
use Rattle.road.specs.Judge.{source_fields, slot_verdict}
use Rattle.road.proofs.Rows.{upto, all_of, upto_take, within_upto}
use Rattle.daily.specs.declared.Daily.{Daily}
use Rattle.daily.specs.Daily.{busiest, last_class, counts_of, daily_table, daily_bits}
use Rattle.daily.proofs.Laws.{same_verdict, counts_within}
use Rattle.request.specs.declared.Counts.TheVariants as counts
use Rattle.request.specs.declared.Request.{Request}
use Rattle.request.specs.declared.Request.TheVariants as request
use Rattle.request.specs.declared.Reading.{Reading}
use Rattle.request.specs.Kinds.{kind_bits, source_slot_bits, last_named_source, after_piece, at, kind_at, layout_of, call_in, source_in, leftover_of, verdict_of, kind_number, fields_of}
use Rattle.request.specs.Record.{kind_of, judged, read_of, extent_of, record_of}
use Rattle.request.proofs.Laws.{part_within}
use Rattle.request.proofs.Trips.{read_fields, read_record}
use Rattle.service.specs.declared.Deed.{Deed}
use Rattle.service.specs.Service.{answer_told, deed, done_to}
use Rattle.service.specs.ByDay.{numbers_of, figure_in, spelled_out, Alike, ByDay}

-- what a reading comes to
abbrev come : Reading → ℕ → List ℕ → Deed × List ℕ
come r n store = deed r.told n (answer_told r.told r.source store)

-- of the two calls, by one verdict
same_call : (v : Verdict) (slot : ℕ) (p : Piece) (d : Daily) (q : Source) (m n : ℕ) (store : List ℕ)
    → Alike (come (judged v (request.PlaceSource slot (counts.ByDay p d)) q) m store) (come (judged v (request.PlaceSource slot counts.ByPeriod) q) n store)
same_call (Ok tt) slot p d q m n store = (refl, refl)
same_call (Err why) slot p d q m n store = (refl, refl)

-- of a reading that is such a call
done_by : (job store : List ℕ) (r : Reading) → read_of job ≡ r → done_to job store ≡ come r (extent_of job) store
unfolding done_to
done_by job store r e = ap (λ (x : Reading). come x (extent_of job) store) e

-- ---- the numbers of a record of kind 6, whatever they are

-- the first n of some numbers, one by one
first : (n : ℕ) (w : List ℕ) → n ≤ length w → take n w ≡ upto (at w) n
first n w h = sym (all_of n (take n w) (length-take-le n w h)) ∙ upto_take n w

module _ (v : List ℕ) (w : Within (layout_of 6) v) where
  abbrev after : List ℕ
  after = drop 2 v

  rest : Within (bits_by piece_table ++ (daily_bits ++ (2 ∷ []))) after
  unfolding kind_at
  rest = part_within (kind_bits ∷ source_slot_bits ∷ []) (bits_by piece_table ++ (daily_bits ++ (2 ∷ []))) v w

  figures : Within (daily_bits ++ (2 ∷ [])) (after_piece after)
  figures = part_within (bits_by piece_table) (daily_bits ++ (2 ∷ [])) after rest

  pub class_small : (figure_in v).class ≤ last_class
  class_small = omega (arith, within_at (daily_bits ++ (2 ∷ [])) (after_piece after) (length road_table) figures (omega arith))

  dtv_small : (figure_in v).dtv < 2 ^ 18
  dtv_small = within_at (daily_bits ++ (2 ∷ [])) (after_piece after) (suc (length road_table)) figures (omega arith)

  -- the fields of the source that they stand for
  pub spelled : take (length piece_table + length road_table) after ++ counts_of (figure_in v) ≡ values_by piece_table (piece_of after) ++ source_fields (source_in 6 v)
  unfolding kind_at
  spelled =
      let n = within_length (bits_by piece_table ++ (daily_bits ++ (2 ∷ []))) after rest in
      let m = within_length (daily_bits ++ (2 ∷ [])) (after_piece after) figures in
      ap (λ (l : List ℕ). l ++ counts_of (figure_in v)) (take-add (length piece_table) (length road_table) after)
      ∙ (λ i. (first (length piece_table) after (omega arith) i ++ first (length road_table) (after_piece after) (omega arith) i) ++ counts_of (figure_in v))

  -- fit a record of kind 3
  pub spelled_within : Within (layout_of 3) (fields_of (request.PlaceSource (at v 1) counts.ByPeriod) (source_in 6 v))
  unfolding kind_at
  spelled_within =
      let piece = within_upto (bits_by piece_table) (daily_bits ++ (2 ∷ [])) after rest in
      let road = within_upto (bits_by road_table) (bits_by daily_table ++ (2 ∷ [])) (after_piece after) figures in
      let six = counts_within (figure_in v) class_small dtv_small in
      let source = within_append (bits_by road_table) (upto (at (after_piece after)) (length road_table)) (bits_by traffic_table) (counts_of (figure_in v)) road six in
      (lit< tt, (within_at (layout_of 6) v 1 w (omega arith), within_append (bits_by piece_table) (upto (at after) (length piece_table)) (bits_by source_table) (source_fields (source_in 6 v)) piece source))

  -- and are judged alike
  pub judged_alike : 1 ≤ (figure_in v).dtv → (figure_in v).dtv ≤ busiest
      → verdict_of (call_in 6 v) (source_in 6 v) ≡ verdict_of (request.PlaceSource (at v 1) counts.ByPeriod) (source_in 6 v)
  unfolding kind_at verdict_of
  judged_alike lo hi = ap (slot_verdict last_named_source (at v 1)) (same_verdict (Uncut (piece_of after)) (figure_in v) (source_in 6 v) (class_small, (lo, hi)))

-- ---- the theorem

record_is : (c : Request) (q : Source) → packed (layout_of (kind_number c q)) (fields_of c q) ≡ record_of c q ++ []
unfolding record_of
record_is c q = sym (append-nil (record_of c q))

alike : (job store : List ℕ) → Bytes job → kind_of job ≡ 6 → size (layout_of 6) ≤ length job → leftover_of 6 (numbers_of job) ≡ 0
    → 1 ≤ (figure_in (numbers_of job)).dtv → (figure_in (numbers_of job)).dtv ≤ busiest
    → Alike (done_to job store) (done_to (spelled_out job) store)
unfolding kind_at
alike job store b e l z lo hi =
    let v = numbers_of job in
    let w = fields_within (layout_of 6) job in
    let slot = at v 1 in
    let q = source_in 6 v in
    let c : Request = request.PlaceSource slot counts.ByPeriod in
    let day : read_of job ≡ judged (verdict_of c q) (call_in 6 v) q =
    read_fields 6 job (lit< tt) l e z ∙ ap (λ (x : Verdict). judged x (call_in 6 v) q) (judged_alike v w lo hi) in
    let same : spelled_out job ≡ record_of c q ++ [] = ap (λ (f : List ℕ). packed (layout_of 3) (3 ∷ slot ∷ f)) (spelled v w) ∙ record_is c q in
    let period : read_of (spelled_out job) ≡ judged (verdict_of c q) c q = ap read_of same ∙ read_record c q [] (spelled_within v w) (λ i. lit< tt) refl in
    let t = same_call (verdict_of c q) slot (piece_of (drop 2 v)) (figure_in v) q (extent_of job) (extent_of (spelled_out job)) store in
    let f = done_by job store (judged (verdict_of c q) (call_in 6 v) q) day in
    let g = done_by (spelled_out job) store (judged (verdict_of c q) c q) period in (
      ap (λ (x : Deed × List ℕ). x.0.outcome) f ∙ t.0 ∙ sym (ap (λ (x : Deed × List ℕ). x.0.outcome) g),
      ap (λ (x : Deed × List ℕ). x.1) f ∙ t.1 ∙ sym (ap (λ (x : Deed × List ℕ). x.1) g),
    )

pub by_day : ByDay
by_day = record { alike = alike }
