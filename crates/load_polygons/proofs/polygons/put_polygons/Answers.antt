-- The type is read as it was judged, and what follows it are the entries.
use Rattle.load_vertices.proofs.Unwrapped.{there}
use Rattle.load_polygons.proofs.PutEntries.{type_fine, typed_room, typed_put}
use Rattle.load_polygons.proofs.polygons.put_polygons.Goals as goal

pub unwrap-t-requires : goal.unwrap-t-requires
unwrap-t-requires c = there _ (type_fine c.requires) c.u4.ensures

pub put_entries-requires : goal.put_entries-requires
put_entries-requires c =
    let w = rw c.unwrap-t.ensures at c.u4.ensures in
    rw c.polygon_kind.ensures (typed_room c.requires w.says)

pub returns : goal.returns
returns c =
    let w = rw c.unwrap-t.ensures at c.u4.ensures in
    typed_put c.requires w.says (rw c.polygon_kind.ensures at c.put_entries.ensures)
