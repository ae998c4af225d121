-- A tag that is compared as a number is compared as text.
use borrow.Author.Rules.{rules}
use Rattle.format.specs.Bytes.{number}
use Rattle.validate_polygons.proofs.polygons.polygon_type.Goals as goal

pub returns : goal.returns
unfolding number
returns c = search rules
