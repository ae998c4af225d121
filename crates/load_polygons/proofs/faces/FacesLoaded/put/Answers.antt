-- The face is put as its start is, and its details are read as they were judged, so that they stop nowhere.
use Rattle.load_polygons.proofs.PutLwobPolygon.{face_room, details_there, face_put}
use Rattle.load_polygons.proofs.faces.FacesLoaded.put.Goals as goal

pub put_lwob_entry-requires : goal.put_lwob_entry-requires
put_lwob_entry-requires c = face_room c.requires

pub unwrap-requires : goal.unwrap-requires
unwrap-requires c = details_there c.requires c.put_lwob_entry.ensures _ c.details_after-details.ensures

pub returns : goal.returns
returns c =
    face_put c.requires c.put_lwob_entry.ensures
    (rw c.unwrap.ensures at c.details_after-details.ensures)
