-- An input is too long where more of it was read than may be; any other was read whole, and into tables of the program's lengths.
use borrow.Author.Rules.{rules}
use Rattle.listing_text.proofs.PrintedSoFar.{wrote_all}
use Rattle.listing_answer.proofs.AfterReading.{after_reading}
use Rattle.listing_output.proofs.FileListing.{wrote_file}
use Rattle.listing_output.proofs.PrintedInput.{not_read, was_read, counts}
use Rattle.listing_output.proofs.put_output.Goals as goal

pub returns-then-input-gt65536 : goal.returns-then-input-gt65536
returns-then-input-gt65536 c = record {
  prints_input = not_read c.if-input-gt65536.true c.put_bytes.ensures;
  prefix_len = counts (wrote_all c.put_bytes.ensures) (search rules);
}

pub put_listing-requires : goal.put_listing-requires
put_listing-requires c = record { counts_held = (after_reading c.read-answer.ensures).counts_held; room = search rules }

pub returns : goal.returns
returns c = record {
  prints_input =
      was_read c.requires c.if-input-gt65536.false
      (wrote_file c.read-answer.ensures
      (record {
        points = search rules;
        polygons = search rules;
        vertices = search rules;
        names = search rules;
        name_bytes = search rules;
        records = search rules;
      })
      c.put_listing.ensures.wrote);
  prefix_len = counts c.put_listing.ensures (search rules);
}
