-- Three texts, one behind the other: the number and the place behind their labels, and the line feed.
use native.Mathlib.Omega.{arith}
use Rattle.listing_answer.specs.Listing.{refusal_line}
use Rattle.listing_text.proofs.PrintedSoFar.{wrote_all, at_most, three_print}
use Rattle.listing_answer.proofs.put_refusal.Goals as goal

pub returns : goal.returns
unfolding refusal_line
returns c =
    let room = c.requires in
    at_most (three_print c.put_labelled-to_place.ensures c.put_labelled-to_end.ensures (wrote_all c.put_bytes.ensures) (omega (arith, room))) (omega arith)
