-- The body is its entries in the layout of faces.
use Rattle.format.specs.Bodies.{faces_body}
use Rattle.validate_polygons.proofs.faces.faces_body.Goals as goal

pub returns : goal.returns
unfolding faces_body
returns c = c.entries.ensures
