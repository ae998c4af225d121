-- Count, vertices and surface number are read as they were judged, so that none is cut.
use native.Mathlib.Omega.{arith}
use Rattle.load_vertices.proofs.Unwrapped.{there}
use Rattle.load_vertices.proofs.PutVertices.{part_room, part_put}
use Rattle.load_vertices.proofs.PutLwobEntry.{count_fine, vertices_room, surface_fine, lwob_entry_put}
use Rattle.load_vertices.proofs.lwob_entry.put_lwob_entry.Goals as goal

pub unwrap-n-requires : goal.unwrap-n-requires
unwrap-n-requires c = there _ (count_fine _ c.requires) c.u2.ensures

pub slice_bounds-put_vertices-end : goal.slice_bounds-put_vertices-end
slice_bounds-put_vertices-end c = omega (arith, (vertices_room _ c.requires (rw c.unwrap-n.ensures at c.u2.ensures)).room)

pub put_vertices-after-requires : goal.put_vertices-after-requires
put_vertices-after-requires c = part_room (vertices_room _ c.requires (rw c.unwrap-n.ensures at c.u2.ensures))

pub unwrap-requires : goal.unwrap-requires
unwrap-requires c =
    let count = rw c.unwrap-n.ensures at c.u2.ensures in
    let put = part_put (vertices_room _ c.requires count) c.put_vertices-after.ensures in
    there _ (surface_fine _ c.requires count put) c.surface_number.ensures

pub returns : goal.returns
returns c =
    let count = rw c.unwrap-n.ensures at c.u2.ensures in
    let put = part_put (vertices_room _ c.requires count) c.put_vertices-after.ensures in
    lwob_entry_put _ c.requires count put (rw c.unwrap.ensures at c.surface_number.ensures) c.put_polygon_words.ensures
