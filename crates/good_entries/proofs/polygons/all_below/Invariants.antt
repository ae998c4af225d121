-- The tests so far, joined, and the vertices that are left decide together.
use lib.Dec.{ltb}
use lib.ListN.{drop}
use Rattle.mesh.proofs.AllPass.{AllSoFar}
use Rattle.good_entries.proofs.polygons.all_below.Given as goal

abbrev pub invariant-loop-vertex : goal.invariant-loop-vertex
invariant-loop-vertex l = AllSoFar (λ v. ltb v l.points) l.vertices (drop l.vertex-index l.vertices) l.below
