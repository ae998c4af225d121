-- The bit is tested as the specification tests it.
use borrow.Author.Tests.{eq-eqb, ne_eqb}
use Prim.Native.Nat.{◌/◌, ◌%◌}
use Rattle.load_records.proofs.record.sides.Goals as goal

pub returns-then-flags-eq1 : goal.returns-then-flags-eq1
returns-then-flags-eq1 c = rw (eq-eqb (c.args.flags / 256 % 2) 1 c.if-flags-eq1.true)

pub returns-else-flags-eq1 : goal.returns-else-flags-eq1
returns-else-flags-eq1 c = rw (ne_eqb (c.args.flags / 256 % 2) 1 c.if-flags-eq1.false)
