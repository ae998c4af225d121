-- The floats that are written have the bits of the missing values.
use Rattle.load_records.proofs.SettledRecord.{missing_is}
use Rattle.load_records.proofs.record.Record.missing.Goals as goal

pub returns : goal.returns
returns c = missing_is
