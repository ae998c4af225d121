-- Four texts, one behind the other: the word, the needs and the two counts.
use Rattle.listing_answer.specs.Listing.{count_lines}
use Rattle.listing_text.proofs.PrintedSoFar.{wrote_all, four_print}
use Rattle.listing_answer.proofs.put_counts.Goals as goal

pub returns : goal.returns
unfolding count_lines
returns c =
    let room = c.requires in
    four_print (wrote_all c.put_bytes-to_needs.ensures) c.put_needs-to_skipped.ensures c.put_count-to_details.ensures c.put_count.ensures room
