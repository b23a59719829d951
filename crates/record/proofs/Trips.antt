-- The round trips of records and their part, all together; the laws behind them are in codec/proofs/Trips.antt.
-- Assumes nothing.
use Rattle.request.proofs.Trips.{write_read, read_written, part_read, part_refused}
use Rattle.record.specs.Trips.{Trips}

pub trips : Trips
trips = record { write_read = write_read; read_written = read_written; part_read = part_read; part_refused = part_refused }
