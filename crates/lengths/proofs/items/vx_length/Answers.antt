-- Two bytes below 65,280, else four.
use mathlib.Core.Path.{sym}
use native.Mathlib.Omega.{arith}
use Rattle.format.proofs.CanonicalLengths.{short_vx, long_vx}
use Rattle.lengths.proofs.items.vx_length.Goals as goal

pub returns-then-n : goal.returns-then-n
returns-then-n c = record { size_is = sym (short_vx _ c.if-n.true); few = omega arith }

pub returns-else-n : goal.returns-else-n
returns-else-n c = record { size_is = sym (long_vx _ c.if-n.false); few = omega arith }
