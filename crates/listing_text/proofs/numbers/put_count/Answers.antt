-- Two texts, one behind the other: the labelled number and the line feed.
use native.Mathlib.Omega.{arith}
use Rattle.listing_text.proofs.PrintedSoFar.{wrote_all, at_most, then_prints}
use Rattle.listing_text.proofs.numbers.put_count.Goals as goal

pub returns : goal.returns
returns c =
    at_most (then_prints c.put_labelled-next.ensures (wrote_all c.put_bytes.ensures) (omega (arith, c.requires))) (omega arith)
