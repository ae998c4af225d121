-- The depth falls with each level, and on one level what is left of the sub-chunks is judged as the whole of them is.
use Rattle.std.proofs.Common.{length, ◌-◌}
use Rattle.validate_surfaces.proofs.SubChunks.{Level}
use Rattle.validate_surfaces.proofs.nesting.+sub_chunks.Given as goal

abbrev pub decreases-sub_chunks : goal.decreases-sub_chunks
decreases-sub_chunks l = l.depth

abbrev pub invariant-loop-at : goal.invariant-loop-at
invariant-loop-at l = Level l.depth l.container l.s l.initial.at l.at

abbrev pub decreases-loop-at : goal.decreases-loop-at
decreases-loop-at l = length l.s - l.at
