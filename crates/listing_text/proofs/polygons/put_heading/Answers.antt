-- Five texts, one behind the other: number, kind, surface and part name behind their labels, and the label of the vertices.
use Rattle.listing_text.specs.Text.{heading}
use Rattle.listing_text.proofs.PrintedSoFar.{wrote_all, five_print}
use Rattle.listing_text.proofs.polygons.put_heading.Goals as goal

pub returns : goal.returns
unfolding heading
returns c =
    five_print c.put_labelled-to_kind.ensures c.put_labelled-to_surface.ensures c.put_labelled-to_part.ensures c.put_labelled-to_end.ensures (wrote_all c.put_bytes.ensures) c.requires
