-- The numbers that a caller of records may get back (METHOD 9): reading gives 2 to 7, writing 5 to 7 and the late 2; what is done is 0.
-- `numbers` in proofs/Numbers.antt proves both.
use Rattle.std.specs.Prelude.{ℕ, ◌≡◌, ◌⊎◌, List}
use Rattle.answer.specs.Table.{Between}
use Rattle.road.specs.declared.Source.{Source}
use Rattle.request.specs.declared.Request.{Request}
use Rattle.request.specs.Record.{read_of, write_of, number_told, number_written}

abbrev pub ReaderNumber : ℕ → Type 0
ReaderNumber n = (n ≡ 0) ⊎ Between 2 7 n

abbrev pub WriterNumber : ℕ → Type 0
WriterNumber n = (n ≡ 0) ⊎ ((n ≡ 2) ⊎ Between 5 7 n)

-- for any bytes, and for any call, source and output
pub record Numbers : Type 0 where
  pub reader : (job : List ℕ) → ReaderNumber (number_told (read_of job).told)
  pub writer : (call : Request) (source : Source) (out : List ℕ) → WriterNumber (number_written (write_of call source out).0)
