-- Those records that are left decide, as long as each so far was good.
use Rattle.good_entries.proofs.RecordWalk.{turn, fails, end}
use Rattle.good_entries.proofs.records.good_records.Goals as goal

pub returns-then-not-good_record : goal.returns-then-not-good_record
returns-then-not-good_record c =
    let s = c.in-Some.ensures.steps in
    fails c.loop-record.invariant _ _ s.1.0 s.1.1 c.good_record.ensures c.if-not-good_record.true

pub loop-record-preserved : goal.loop-record-preserved
loop-record-preserved c =
    let s = c.in-Some.ensures.steps in
    turn c.loop-record.invariant _ _ s.1.0 s.1.1 c.good_record.ensures c.if-not-good_record.false s.0

pub returns : goal.returns
returns c = end c.loop-record.invariant c.in-None.ensures.steps.1.0
