-- By its first byte a VX is read in its long form, or is a U2.
use Rattle.format.proofs.Places.{vx_long, vx_short}
use Rattle.wire.proofs.cursor.Cursor.vx.Goals as goal

pub returns-then-byte : goal.returns-then-byte
returns-then-byte c = vx_long c.byte.ensures c.if-byte.true c.long_index.ensures

pub returns-else-byte : goal.returns-else-byte
returns-else-byte c = vx_short c.byte.ensures c.if-byte.false c.u2.ensures
