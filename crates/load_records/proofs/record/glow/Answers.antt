-- The bit is tested as the specification tests it.
use Rattle.load_records.proofs.SettledRecord.{glows, no_glow}
use Rattle.load_records.proofs.record.glow.Goals as goal

pub returns-then-flags-eq1 : goal.returns-then-flags-eq1
returns-then-flags-eq1 c = glows _ c.if-flags-eq1.true

pub returns-else-flags-eq1 : goal.returns-else-flags-eq1
returns-else-flags-eq1 c = no_glow _ c.if-flags-eq1.false
