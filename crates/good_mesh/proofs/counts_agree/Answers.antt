-- The three sums are compared; names are entries of one word.
use mathlib.Core.Bool.{and_assoc, and-true}
use Rattle.format.specs.Bytes.{every}
use Rattle.good_mesh.specs.Tests.{counts_agree}
use Rattle.good_mesh.proofs.MeshTests.{single}
use Rattle.good_mesh.proofs.counts_agree.Goals as goal

pub returns : goal.returns
unfolding counts_agree every
returns c = rw (c.vertex_count.ensures, c.sum_of.ensures, single) (simp (and_assoc, and-true))
