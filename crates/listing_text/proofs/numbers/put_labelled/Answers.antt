-- Two texts, one behind the other: the label and the digits.
use Rattle.listing_text.proofs.PrintedSoFar.{wrote_all, then_prints}
use Rattle.listing_text.proofs.numbers.put_labelled.Goals as goal

pub returns : goal.returns
returns c =
    then_prints (wrote_all c.put_bytes-next.ensures) c.put_decimal.ensures c.requires
