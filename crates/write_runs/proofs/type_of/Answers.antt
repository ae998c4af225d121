-- The numbers of the two types are their letters.
use borrow.Author.Tests.{eq-eqb, ne_eqb}
use Rattle.format.specs.Canonical.{bytes}
use Rattle.write_runs.proofs.type_of.Goals as goal

pub returns-then-kind-eq1 : goal.returns-then-kind-eq1
unfolding bytes
returns-then-kind-eq1 c = rw (eq-eqb _ _ c.if-kind-eq1.true)

pub returns-else-kind-eq1 : goal.returns-else-kind-eq1
unfolding bytes
returns-else-kind-eq1 c = rw (ne_eqb _ _ c.if-kind-eq1.false)
