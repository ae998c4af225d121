-- Each value is taken in after those before it; a body that was judged fine has no fault to stop at.
use Rattle.load_values.proofs.LastValues.{begin, turn, idle, never_bad, never_stop, end}
use Rattle.load_values.proofs.last_values.last_values.Goals as goal

pub loop-at-init : goal.loop-at-init
loop-at-init c = begin c.requires c.none-last.ensures

pub returns-in_default : goal.returns-in_default
returns-in_default c = absurd (never_bad c.loop-at.invariant c.loop-at-test.true c.in_default.ensures)

pub returns-in_default-value_of : goal.returns-in_default-value_of
returns-in_default-value_of c = absurd (never_stop c.loop-at.invariant c.loop-at-test.true c.in-Ok.ensures c.in_default-value_of.ensures)

pub loop-at-preserved-in-Some : goal.loop-at-preserved-in-Some
loop-at-preserved-in-Some c =
    turn c.loop-at.invariant c.loop-at-test.true c.in-Ok.ensures (rw c.in-Some.is at c.in-Ok-value_of.ensures) c.with-last.ensures

pub loop-at-preserved : goal.loop-at-preserved
loop-at-preserved c = idle c.loop-at.invariant c.loop-at-test.true c.in-Ok.ensures (rw c.in_default-given.is at c.in-Ok-value_of.ensures)

pub returns : goal.returns
returns c = end c.loop-at.invariant c.loop-at-test.false
