-- A TMAP is a container, and no other tag is.
use Rattle.validate_surfaces.proofs.SubChunks.{map_holds, not_map}
use Rattle.format.specs.Bytes.{number}
use Rattle.validate_surfaces.proofs.nesting.attribute.Goals as goal

pub returns-then-tag-eq-TMAP : goal.returns-then-tag-eq-TMAP
unfolding number
returns-then-tag-eq-TMAP c = rw c.body.ensures (map_holds _ c.if-tag-eq-TMAP.true)

pub returns : goal.returns
unfolding number
returns c = not_map _ c.if-tag-eq-TMAP.false c.args.sub.body_starts_inside
