-- The polygons of the chunks that were passed stand in the tables, and each turn puts one chunk (`PolygonsWalk`).
use borrow.Author.Rules.{rules}
use mathlib.Core.Path.{◌≡◌}
use Rattle.load_polygon_chunks.specs.Held.{nothing_latest}
use Rattle.load_polygon_chunks.proofs.PolygonsWalk.{begin, end, header_there, part_room, turn}
use Rattle.load_polygon_chunks.proofs.polygons.fill_polygons.Goals as goal

pub loop-at-init : goal.loop-at-init
loop-at-init c =
    let nothing : c.default-latest.result ≡ nothing_latest = search rules in
    begin c.requires nothing

pub unwrap-tag-requires : goal.unwrap-tag-requires
unwrap-tag-requires c = header_there c.loop-at.invariant c.loop-at-test.true _ c.chunk_at.ensures

pub put_chunk-latest-requires : goal.put_chunk-latest-requires
put_chunk-latest-requires c = part_room c.loop-at.invariant (rw c.unwrap-tag.ensures at c.chunk_at.ensures)

pub loop-at-preserved : goal.loop-at-preserved
loop-at-preserved c = turn c.loop-at.invariant (rw c.unwrap-tag.ensures at c.chunk_at.ensures) c.put_chunk-latest.ensures

pub returns : goal.returns
returns c = end c.loop-at.invariant c.loop-at-test.false
