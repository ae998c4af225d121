-- Those records that are left decide, as long as each so far was good.
use Rattle.good_entries.proofs.RecordWalk.{RecordWalk}
use Rattle.good_entries.proofs.records.good_records.Given as goal

abbrev pub invariant-loop-record : goal.invariant-loop-record
invariant-loop-record l = RecordWalk l.records l.record-iterator.rest.now l.record-iterator.size
