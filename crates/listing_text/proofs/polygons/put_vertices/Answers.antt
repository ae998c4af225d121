-- A walk over the vertices that prints each behind those before it.
use mathlib.Core.Path.{refl}
use Rattle.listing_text.proofs.PrintedVertices.{turn, end}
use Rattle.listing_text.proofs.polygons.put_vertices.Goals as goal

pub loop-vertex-preserved : goal.loop-vertex-preserved
loop-vertex-preserved c = turn c.loop-vertex.invariant c.loop-vertex-test.true refl c.put_labelled-next.ensures

pub returns : goal.returns
returns c = end c.loop-vertex.invariant c.loop-vertex-test.false
