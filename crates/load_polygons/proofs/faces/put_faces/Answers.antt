-- The body is its entries in the layout of faces.
use Rattle.format.specs.Bodies.{faces_body}
use Rattle.format.specs.Items.{◌>>=◌}
use Rattle.load_polygons.proofs.faces.put_faces.Goals as goal

pub put_entries-requires : goal.put_entries-requires
unfolding faces_body ◌>>=◌
put_entries-requires c = c.requires

pub returns : goal.returns
unfolding faces_body ◌>>=◌
returns c = c.put_entries.ensures
