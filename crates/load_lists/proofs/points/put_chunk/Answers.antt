-- A PNTS is its points, whose words are a fourth of its body's bytes, and any other chunk has none (`PointsChunk`).
use borrow.Author.Rules.{rules}
use borrow.Author.Tests.{eq-eqb, ne_eqb}
use Rattle.format.specs.Bytes.{number}
use Rattle.load_lists.proofs.PointsChunk.{chunk_none, chunk_room, chunk_points}
use Rattle.load_lists.proofs.points.put_chunk.Goals as goal

pub returns-then-tag-ne-PNTS : goal.returns-then-tag-ne-PNTS
unfolding number
returns-then-tag-ne-PNTS c = chunk_none (ne_eqb _ _ c.if-tag-ne-PNTS.true)

pub put_points-requires : goal.put_points-requires
unfolding number
put_points-requires c = chunk_room (eq-eqb _ _ c.if-tag-ne-PNTS.false) c.requires

pub returns : goal.returns
unfolding number
returns c = chunk_points (eq-eqb _ _ c.if-tag-ne-PNTS.false) c.put_points.ensures (search rules)
