-- The tags are compared in the order of the rules, and each has its body.
use borrow.Author.Tests.{ne_eqb}
use Rattle.format.specs.Bytes.{number}
use Rattle.format.specs.Rules.{judge}
use Rattle.validate_chunk.proofs.ChunkCounts.{unlisted}
use Rattle.validate_chunk.proofs.chunk.lwo2_chunk.Goals as goal

pub returns-then-tag-eq-PNTS : goal.returns-then-tag-eq-PNTS
unfolding judge number
returns-then-tag-eq-PNTS c = rw c.if-tag-eq-PNTS.true c.lwo2_points.ensures

pub returns-then-tag-eq-TAGS : goal.returns-then-tag-eq-TAGS
unfolding judge number
returns-then-tag-eq-TAGS c = rw c.if-tag-eq-TAGS.true c.names_chunk.ensures

pub returns-then-tag-eq-POLS : goal.returns-then-tag-eq-POLS
unfolding judge number
returns-then-tag-eq-POLS c = rw c.if-tag-eq-POLS.true c.lwo2_polygons.ensures

pub returns-then-tag-eq-PTAG : goal.returns-then-tag-eq-PTAG
unfolding judge number
returns-then-tag-eq-PTAG c = rw c.if-tag-eq-PTAG.true c.tagging_chunk.ensures

pub returns-then-tag-eq-SURF : goal.returns-then-tag-eq-SURF
unfolding judge number
returns-then-tag-eq-SURF c = rw c.if-tag-eq-SURF.true c.surface_chunk.ensures

pub returns-then-tag-eq-LAYR : goal.returns-then-tag-eq-LAYR
unfolding judge number
returns-then-tag-eq-LAYR c = rw c.if-tag-eq-LAYR.true c.layer_chunk.ensures

pub returns : goal.returns
unfolding judge number
returns c =
    rw (ne_eqb _ _ c.if-tag-eq-PNTS.false, ne_eqb _ _ c.if-tag-eq-TAGS.false, ne_eqb _ _ c.if-tag-eq-POLS.false, ne_eqb _ _ c.if-tag-eq-PTAG.false, ne_eqb _ _ c.if-tag-eq-SURF.false, ne_eqb _ _ c.if-tag-eq-LAYR.false)
    unlisted
