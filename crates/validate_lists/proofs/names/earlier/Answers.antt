-- The names from p on are left to be compared, and none before p is equal.
use Rattle.validate_lists.proofs.EarlierNames.{from_first, never, found, onward, not_there}
use Rattle.validate_lists.proofs.names.earlier.Goals as goal

pub loop-p-init : goal.loop-p-init
loop-p-init c = from_first

pub returns-in_default : goal.returns-in_default
returns-in_default c = never c.loop-p.invariant c.loop-p-test.true c.in_default.ensures

pub returns-then-same_bytes : goal.returns-then-same_bytes
returns-then-same_bytes c = found c.loop-p.invariant c.loop-p-test.true c.in-Ok.ensures c.same_bytes.ensures c.if-same_bytes.true

pub loop-p-preserved : goal.loop-p-preserved
loop-p-preserved c = onward c.loop-p.invariant c.loop-p-test.true c.in-Ok.ensures c.same_bytes.ensures c.if-same_bytes.false

pub returns : goal.returns
returns c = not_there c.loop-p.invariant c.loop-p-test.false
