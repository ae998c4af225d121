-- A chunk without entries takes nothing.
use mathlib.Core.Path.{◌∙◌}
use native.Mathlib.Omega.{arith}
use borrow.Author.Tests.{eq-eqb, ne_eqb}
use Rattle.lengths.specs.Sizes.{unless_none}
use Rattle.lengths.proofs.items.unless_empty.Goals as goal

pub returns-then-count-eq0 : goal.returns-then-count-eq0
unfolding unless_none
returns-then-count-eq0 c = record { size_is = rw (eq-eqb _ _ c.if-count-eq0.true); few = omega arith }

pub returns-else-count-eq0 : goal.returns-else-count-eq0
unfolding unless_none
returns-else-count-eq0 c = record { size_is = c.chunk_length.ensures.size_is ∙ rw (ne_eqb _ _ c.if-count-eq0.false); few = c.chunk_length.ensures.few }
