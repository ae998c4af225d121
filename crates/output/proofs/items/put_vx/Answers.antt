-- Below 65,280 two bytes are the shortest, else four.
use native.Mathlib.Omega.{arith}
use borrow.Author.Tests.{lt-ltb, le-ltb}
use Rattle.format.specs.Canonical.{vx_bytes}
use Rattle.format.proofs.CanonicalLengths.{short_vx, long_vx}
use Rattle.output.proofs.items.put_vx.Goals as goal

pub put_u2-requires : goal.put_u2-requires
put_u2-requires c = omega (arith, short_vx _ c.if-n-lt-FIRST_LONG_INDEX.true, c.requires.1)

pub put_u4-requires : goal.put_u4-requires
put_u4-requires c = omega (arith, long_vx _ c.if-n-lt-FIRST_LONG_INDEX.false, c.requires.1)

pub returns-then-n-lt-FIRST_LONG_INDEX : goal.returns-then-n-lt-FIRST_LONG_INDEX
unfolding vx_bytes
returns-then-n-lt-FIRST_LONG_INDEX c = rw (lt-ltb _ _ c.if-n-lt-FIRST_LONG_INDEX.true) c.put_u2.ensures

pub returns-else-n-lt-FIRST_LONG_INDEX : goal.returns-else-n-lt-FIRST_LONG_INDEX
unfolding vx_bytes
returns-else-n-lt-FIRST_LONG_INDEX c = rw (le-ltb _ _ c.if-n-lt-FIRST_LONG_INDEX.false) c.put_u4.ensures
