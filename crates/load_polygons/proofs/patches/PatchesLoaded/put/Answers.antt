-- A patch that was judged fine is put as its start is.
use Rattle.load_polygons.proofs.PutLwobPolygon.{patch_room, patch_put}
use Rattle.load_polygons.proofs.patches.PatchesLoaded.put.Goals as goal

pub put_lwob_entry-requires : goal.put_lwob_entry-requires
put_lwob_entry-requires c = patch_room c.requires

pub returns : goal.returns
returns c =
    patch_put c.requires c.put_lwob_entry.ensures.put
