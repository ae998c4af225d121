-- A tag that is compared as a number is compared as text.
use borrow.Author.Tests.{eq-eqb, ne_eqb}
use Rattle.format.specs.Bytes.{number}
use Rattle.polygon_layouts.proofs.polygon_kind.Goals as goal

pub returns-then-t-eq-FACE : goal.returns-then-t-eq-FACE
unfolding number
returns-then-t-eq-FACE c = rw (eq-eqb _ _ c.if-t-eq-FACE.true)

pub returns-else-t-eq-FACE : goal.returns-else-t-eq-FACE
unfolding number
returns-else-t-eq-FACE c = rw (ne_eqb _ _ c.if-t-eq-FACE.false)
