-- Count and vertices are read as they were judged, so that none is cut.
use native.Mathlib.Omega.{arith}
use Rattle.load_vertices.proofs.Unwrapped.{there}
use Rattle.load_vertices.proofs.PutVertices.{part_room, part_put}
use Rattle.load_polygons.proofs.PutLwo2Polygon.{polygon_counted, polygon_vertices, polygon_put}
use Rattle.load_polygons.proofs.polygons.PolygonsLoaded.put.Goals as goal

pub unwrap-n-requires : goal.unwrap-n-requires
unwrap-n-requires c = there _ (polygon_counted _ c.requires) c.u2.ensures

pub slice_bounds-put_vertices-end : goal.slice_bounds-put_vertices-end
slice_bounds-put_vertices-end c = omega (arith, (polygon_vertices _ c.requires (rw c.unwrap-n.ensures at c.u2.ensures)).room)

pub put_vertices-next-requires : goal.put_vertices-next-requires
put_vertices-next-requires c = part_room (polygon_vertices _ c.requires (rw c.unwrap-n.ensures at c.u2.ensures))

pub returns : goal.returns
returns c =
    let count = rw c.unwrap-n.ensures at c.u2.ensures in
    let put = part_put (polygon_vertices _ c.requires count) c.put_vertices-next.ensures in
    polygon_put _ c.requires count c.put_polygon_words.ensures put
