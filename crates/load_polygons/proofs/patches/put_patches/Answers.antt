-- The body is its entries in the layout of patches.
use Rattle.format.specs.Bodies.{patches_body}
use Rattle.format.specs.Items.{◌>>=◌}
use Rattle.load_polygons.proofs.patches.put_patches.Goals as goal

pub put_entries-requires : goal.put_entries-requires
unfolding patches_body ◌>>=◌
put_entries-requires c = c.requires

pub returns : goal.returns
unfolding patches_body ◌>>=◌
returns c = c.put_entries.ensures
