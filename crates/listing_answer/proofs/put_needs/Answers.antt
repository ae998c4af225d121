-- Five lines, one behind the other.
use Rattle.listing_answer.specs.Listing.{need_lines}
use Rattle.listing_text.proofs.PrintedSoFar.{five_print}
use Rattle.listing_answer.proofs.put_needs.Goals as goal

pub returns : goal.returns
unfolding need_lines
returns c =
    let room = c.requires in
    five_print c.put_count-to_polygons.ensures c.put_count-to_vertices.ensures c.put_count-to_names.ensures c.put_count-to_bytes.ensures c.put_count.ensures room
