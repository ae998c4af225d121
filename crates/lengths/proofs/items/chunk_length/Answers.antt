-- The code is the definition.
use native.Mathlib.Omega.{arith}
use Rattle.format.specs.Chunks.{size_of}
use Rattle.lengths.proofs.items.chunk_length.Goals as goal

pub returns : goal.returns
unfolding size_of
returns c = record { size_is = omega arith; few = omega arith }
