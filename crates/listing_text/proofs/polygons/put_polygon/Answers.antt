-- Three texts, one behind the other: the heading, the vertices and the line feed.
use native.Mathlib.Omega.{arith}
use Rattle.listing_text.specs.Text.{polygon_line}
use Rattle.listing_text.proofs.PrintedSoFar.{wrote_all, at_most, three_print}
use Rattle.listing_text.proofs.polygons.put_polygon.Goals as goal

pub returns : goal.returns
unfolding polygon_line
returns c =
    let room = c.requires in
    at_most (three_print c.put_heading-to_vertices.ensures c.put_vertices-to_end.ensures (wrote_all c.put_bytes.ensures) (omega (arith, room))) (omega arith)
