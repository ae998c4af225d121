-- A walk over the vertices that prints each behind those before it.
use Rattle.listing_text.proofs.PrintedVertices.{PrintedVertices}
use Rattle.listing_text.proofs.polygons.put_vertices.Given as goal

abbrev pub invariant-loop-vertex : goal.invariant-loop-vertex
invariant-loop-vertex l = PrintedVertices l.vertices l.initial.out l.at l.out l.next l.vertex-index
