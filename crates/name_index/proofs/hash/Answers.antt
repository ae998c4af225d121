-- The bytes before the index are in the hash, and those after it are still to be mixed in.
use mathlib.Core.Path.{◌∙◌}
use Rattle.name_index.specs.Index.{mixed}
use Rattle.name_index.proofs.HashLoop.{one_byte_more, no_byte_left}
use Rattle.name_index.proofs.hash.Goals as goal

pub loop-b-preserved : goal.loop-b-preserved
loop-b-preserved c = rw c.mix-h.ensures (one_byte_more (mixed _) _ _ _ c.loop-b-test.true ∙ c.loop-b.invariant)

pub returns : goal.returns
returns c = no_byte_left (mixed _) _ _ _ c.loop-b-test.false c.loop-b.invariant
