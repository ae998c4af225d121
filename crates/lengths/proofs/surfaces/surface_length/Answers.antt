-- A defined name has a chunk of its string and 90 bytes, another has none.
use mathlib.Core.Path.{◌∙◌}
use native.Mathlib.Omega.{arith}
use borrow.Author.Tests.{eq-eqb, ne_eqb}
use Rattle.lengths.proofs.surfaces.surface_length.Goals as goal

pub returns-then-defined-eq1 : goal.returns-then-defined-eq1
returns-then-defined-eq1 c = record { size_is = c.chunk_length.ensures.size_is ∙ rw (eq-eqb _ _ c.if-defined-eq1.true, c.string_length.ensures.size_is); few = omega (arith, c.chunk_length.ensures.few, c.string_length.ensures.few) }

pub returns-else-defined-eq1 : goal.returns-else-defined-eq1
returns-else-defined-eq1 c = record { size_is = rw (ne_eqb _ _ c.if-defined-eq1.false); few = omega arith }
