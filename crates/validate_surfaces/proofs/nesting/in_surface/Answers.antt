-- A BLOK is a container in LWO2, and every other sub-chunk is its value.
use Rattle.validate_surfaces.proofs.SubChunks.{held_lwob, held_block, held_lwo2}
use Rattle.format.specs.Bytes.{number}
use Rattle.validate_surfaces.proofs.nesting.in_surface.Goals as goal

pub returns-then-tag-eq-BLOK : goal.returns-then-tag-eq-BLOK
unfolding number
returns-then-tag-eq-BLOK c = rw c.in-LWO2.is (held_block _ c.if-tag-eq-BLOK.true c.block.ensures)

pub returns-in-LWOB : goal.returns-in-LWOB
returns-in-LWOB c = rw c.in-LWOB.is (held_lwob _ c.value.ensures)

pub returns-else-tag-eq-BLOK : goal.returns-else-tag-eq-BLOK
unfolding number
returns-else-tag-eq-BLOK c = rw c.in-LWO2.is (held_lwo2 _ c.if-tag-eq-BLOK.false c.value-in-LWO2.ensures)
