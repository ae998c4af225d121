-- Each turn puts one missing record more, after those before it.
use Rattle.format.specs.Promises.{Put}
use Rattle.load_records.proofs.MissingRecords.{missing_words}
use Rattle.load_records.proofs.table.put_missing.Given as goal

abbrev pub invariant-loop-i : goal.invariant-loop-i
invariant-loop-i l = Put l.initial.table 0 (missing_words l.i) l.table
