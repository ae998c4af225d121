-- The records of the names that were passed are as they will be, and each turn puts or keeps one (`RecordAtNames`).
use Rattle.load_records.specs.Promises.{LevelsHaveBits, surface_of}
use Rattle.load_surface_chunks.proofs.RecordAtNames.{StoredTo}
use Rattle.load_surface_chunks.proofs.named.put_at_each.Given as goal

abbrev pub invariant-loop-i : goal.invariant-loop-i
invariant-loop-i l = LevelsHaveBits l.r × StoredTo l.name (surface_of l.r) l.lengths l.bytes l.initial.records l.i l.at l.records
