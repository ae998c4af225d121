-- The body is its entries in the layout of patches.
use Rattle.format.specs.Bodies.{patches_body}
use Rattle.validate_polygons.proofs.patches.patches_body.Goals as goal

pub returns : goal.returns
unfolding patches_body
returns c = c.entries.ensures
