-- The tags are compared in the order of the rules, and each has its body.
use borrow.Author.Tests.{ne_eqb}
use Rattle.format.specs.Bytes.{number}
use Rattle.format.specs.Rules.{judge}
use Rattle.validate_chunk.proofs.ChunkCounts.{unlisted}
use Rattle.validate_chunk.proofs.chunk.lwob_chunk.Goals as goal

pub returns-then-tag-eq-PNTS : goal.returns-then-tag-eq-PNTS
unfolding judge number
returns-then-tag-eq-PNTS c = rw c.if-tag-eq-PNTS.true c.lwob_points.ensures

pub returns-then-tag-eq-SRFS : goal.returns-then-tag-eq-SRFS
unfolding judge number
returns-then-tag-eq-SRFS c = rw c.if-tag-eq-SRFS.true c.names_chunk.ensures

pub returns-then-tag-eq-POLS : goal.returns-then-tag-eq-POLS
unfolding judge number
returns-then-tag-eq-POLS c = rw c.if-tag-eq-POLS.true (rw c.if-tag-eq-POLS.true at c.lwob_polygons.ensures)

pub returns-then-tag-eq-PCHS : goal.returns-then-tag-eq-PCHS
unfolding judge number
returns-then-tag-eq-PCHS c = rw c.if-tag-eq-PCHS.true (rw c.if-tag-eq-PCHS.true at c.lwob_polygons-then-tag-eq-PCHS.ensures)

pub returns-then-tag-eq-SURF : goal.returns-then-tag-eq-SURF
unfolding judge number
returns-then-tag-eq-SURF c = rw c.if-tag-eq-SURF.true c.surface_chunk.ensures

pub returns : goal.returns
unfolding judge number
returns c = rw (ne_eqb _ _ c.if-tag-eq-PNTS.false, ne_eqb _ _ c.if-tag-eq-SRFS.false, ne_eqb _ _ c.if-tag-eq-POLS.false, ne_eqb _ _ c.if-tag-eq-PCHS.false, ne_eqb _ _ c.if-tag-eq-SURF.false) unlisted
