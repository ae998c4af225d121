-- What the file comes to is what was seen and what the chunks from here on add; each turn moves one chunk over (`ChunksWalk`).
use Prim.Native.Nat.{◌-◌}
use lib.ListN.{length}
use Rattle.validate.proofs.ChunksWalk.{CountedTo}
use Rattle.validate.proofs.chunks.validate_chunks.Given as goal

abbrev pub invariant-loop-at : goal.invariant-loop-at
invariant-loop-at l = CountedTo l.kind l.file l.at l.seen

abbrev pub decreases-loop-at : goal.decreases-loop-at
decreases-loop-at l = length l.file - l.at
