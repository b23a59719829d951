-- The numbers of a call's verdict: the judge of its slot and fields gives 5 to 7. And the places of what a reader tells: fields' numbers.
-- Assumes nothing.
use Rattle.std.specs.Prelude.{Ok, Err}
use Prim.Native.Nat.{ℕ, ◌<◌}
use mathlib.Core.Bool.{Bool, true, false, cond}
use mathlib.Core.List.{List}
use native.Mathlib.Omega.{arith}
use Rattle.answer.specs.declared.Refusal.TheVariants.{CutShort, UnknownKind, Leftover}
use Rattle.course.specs.declared.Course.TheVariants.{Uncut}
use Rattle.road.specs.declared.Source.{Source}
use Rattle.road.specs.Results.{Verdict}
use Rattle.road.specs.Judge.{receiver_verdict, source_verdict, wall_verdict}
use Rattle.road.proofs.Judged.{ByFields, source_by, receiver_by, wall_by, slot_by_lem}
use Rattle.daily.specs.Daily.{daily_verdict}
use Rattle.daily.proofs.Laws.{daily_by}
use Rattle.request.specs.declared.Counts.TheVariants.{ByPeriod, ByDay}
use Rattle.request.specs.declared.Request.{Request}
use Rattle.request.specs.declared.Request.TheVariants.{PlaceReceiver, WithdrawReceiver, PlaceSource, WithdrawSource, Ask, PlaceWall, WithdrawWall}
use Rattle.request.specs.declared.Reading.{Reading}
use Rattle.request.specs.Kinds.{last_named_source, last_named_receiver, last_named_wall, call_in, source_in, verdict_of}
use Rattle.request.specs.Record.{kind_of, values_of, cut_short, unknown_kind, leftover_set, refused, judged, heard, read_of, place_told}

pub verdict_by : (call : Request) (source : Source) → ByFields (verdict_of call source)
unfolding verdict_of
verdict_by (PlaceReceiver slot r) s = slot_by_lem last_named_receiver slot (receiver_verdict r) (receiver_by r)
verdict_by (WithdrawReceiver slot) s = slot_by_lem last_named_receiver slot (Ok tt) tt
verdict_by (PlaceSource slot ByPeriod) s = slot_by_lem last_named_source slot (source_verdict s) (source_by s)
verdict_by (PlaceSource slot (ByDay p d)) s = slot_by_lem last_named_source slot (daily_verdict (Uncut p) d s) (daily_by (Uncut p) d s)
verdict_by (WithdrawSource slot) s = slot_by_lem last_named_source slot (Ok tt) tt
verdict_by (Ask slot) s = slot_by_lem last_named_receiver slot (Ok tt) tt
verdict_by (PlaceWall slot w) s = slot_by_lem last_named_wall slot (wall_verdict w) (wall_by w)
verdict_by (WithdrawWall slot) s = slot_by_lem last_named_wall slot (Ok tt) tt

abbrev Low : Reading → Type 0
Low r = place_told r.told < 32

either_low : (t : Bool) (r q : Reading) → Low r → Low q → Low (cond t r q)
either_low true r q m n = m
either_low false r q m n = n

judged_low : (v : Verdict) (c : Request) (s : Source) → ByFields v → Low (judged v c s)
judged_low (Ok tt) c s b = omega arith
judged_low (Err why) c s b = b.2

pub read_low : (s : List ℕ) → place_told (read_of s).told < 32
unfolding read_of
read_low s =
    let c = call_in (kind_of s) (values_of s) in
    let x = source_in (kind_of s) (values_of s) in
    either_low (cut_short s) (refused CutShort) _ (omega arith)
    (either_low (unknown_kind s) (refused UnknownKind) _ (omega arith)
    (either_low (leftover_set s) (refused Leftover) (heard (kind_of s) (values_of s)) (omega arith) (judged_low (verdict_of c x) c x (verdict_by c x))))
