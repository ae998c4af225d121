-- All vertices being numbers of points, the entries decide: a walk over the polygons, those that are left deciding as long as each so far was good.
use Rattle.mesh.specs.Lent.{mesh_polygons}
use Rattle.mesh.proofs.AllPass.{AllPass}
use Rattle.mesh.proofs.PolygonEntries.{PolygonEntries}
use Rattle.good_entries.proofs.GoodPolygons.{good_words}
use Rattle.good_entries.proofs.polygons.good_polygons.Given as goal

abbrev pub invariant-loop-entry : goal.invariant-loop-entry
invariant-loop-entry l = PolygonEntries l.polygons l.vertices (AllPass (good_words l.names) (mesh_polygons l.polygons l.vertices)) l.entry-iterator l.first
