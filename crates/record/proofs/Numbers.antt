-- The numbers of reader and writer: the judge gives 5 to 7, and what comes before and after it is 2, 3 or 4.
-- Assumes nothing.
use Rattle.std.specs.Prelude.{Ok, Err}
use Prim.Native.Nat.{ℕ}
use mathlib.Core.Path.{refl}
use mathlib.Core.Logic.{inl, inr}
use mathlib.Core.Bool.{Bool, true, false, cond}
use mathlib.Core.List.{List, ◌++◌}
use native.Mathlib.Omega.{arith}
use lib.Dec.{ltb}
use lib.ListN.{length, drop}
use Rattle.answer.specs.declared.Refusal.TheVariants.{CutShort}
use Rattle.road.specs.declared.Source.{Source}
use Rattle.road.specs.Results.{Verdict}
use Rattle.road.proofs.Judged.{ByFields}
use Rattle.request.specs.declared.Request.{Request}
use Rattle.request.specs.declared.Reading.{Reading}
use Rattle.request.specs.Record.{Written}
use Rattle.request.specs.Kinds.{call_in, source_in, verdict_of}
use Rattle.request.specs.Record.{kind_of, values_of, cut_short, unknown_kind, leftover_set, judged, read_of, record_of, written_by, write_of, number_told, number_written}
use Rattle.request.proofs.Numbers.{verdict_by}
use Rattle.record.specs.Numbers.{ReaderNumber, WriterNumber, Numbers}

-- ---- reading

abbrev Read : Reading → Type 0
Read r = ReaderNumber (number_told r.told)

either_read : (t : Bool) (a b : Reading) → Read a → Read b → Read (cond t a b)
either_read true a b m n = m
either_read false a b m n = n

judged_read : (v : Verdict) (c : Request) (s : Source) → ByFields v → Read (judged v c s)
judged_read (Ok tt) c s n = inl refl
judged_read (Err why) c s n = inr (omega (arith, n.0), n.1)

reader : (job : List ℕ) → Read (read_of job)
unfolding read_of
reader job =
    let c = call_in (kind_of job) (values_of job) in
    let s = source_in (kind_of job) (values_of job) in
    either_read (cut_short job) _ _ (inr (omega arith, omega arith))
    (either_read (unknown_kind job) _ _ (inr (omega arith, omega arith))
    (either_read (leftover_set job) _ _ (inr (omega arith, omega arith)) (judged_read (verdict_of c s) c s (verdict_by c s))))

-- ---- writing

written_by_lem : (v : Verdict) (bytes out : List ℕ) → ByFields v → WriterNumber (number_written (written_by v bytes out).0)
written_by_lem (Err why) bytes out n = inr (inr (n.0, n.1))
written_by_lem (Ok tt) bytes out n = go (ltb (length out) (length bytes))
  where
    go : (t : Bool) → WriterNumber (number_written (cond {A = Written × List ℕ} t (Err CutShort, out) (Ok tt, bytes ++ drop (length bytes) out)).0)
    go true = inr (inl refl)
    go false = inl refl

writer : (call : Request) (source : Source) (out : List ℕ) → WriterNumber (number_written (write_of call source out).0)
unfolding write_of
writer call source out = written_by_lem (verdict_of call source) (record_of call source) out (verdict_by call source)

pub numbers : Numbers
numbers = record { reader = reader; writer = writer }
