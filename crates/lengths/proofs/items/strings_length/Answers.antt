-- The length of each string is added to those before it.
use native.Mathlib.Omega.{arith}
use Rattle.format.specs.Items.{string_size}
use Rattle.lengths.proofs.SizeSum.{turn, end, sum_more, sum_none}
use Rattle.lengths.proofs.items.strings_length.Goals as goal

pub loop-length-preserved : goal.loop-length-preserved
loop-length-preserved c =
    let w = c.loop-length.invariant in
    turn w (sum_more _ _ string_size c.loop-length-test.true) c.string_length-bytes.ensures.size_is (omega (arith, w.few, c.string_length-bytes.ensures.few))

pub returns : goal.returns
returns c = end c.loop-length.invariant (sum_none _ _ string_size c.loop-length-test.false) (omega (arith, c.requires))
