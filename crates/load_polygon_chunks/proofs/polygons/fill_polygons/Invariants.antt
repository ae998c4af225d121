-- The polygons of the chunks that were passed stand in the tables, and each turn puts one chunk (`PolygonsWalk`).
use Prim.Native.Nat.{◌-◌}
use lib.ListN.{length}
use Rattle.load_polygon_chunks.proofs.PolygonsWalk.{PolygonsTo}
use Rattle.load_polygon_chunks.proofs.polygons.fill_polygons.Given as goal

abbrev pub invariant-loop-at : goal.invariant-loop-at
invariant-loop-at l = PolygonsTo l.kind l.file l.names l.initial.polygons l.initial.vertices l.polygons l.vertices l.at l.latest

abbrev pub decreases-loop-at : goal.decreases-loop-at
decreases-loop-at l = length l.file - l.at
