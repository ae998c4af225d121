-- The length of each vertex is added to those before it.
use Prim.Native.Nat.{◌*◌}
use lib.ListN.{drop}
use Rattle.format.specs.Canonical.{vx_bytes}
use Rattle.format.specs.Promises.{total}
use Rattle.lengths.proofs.SizeSum.{SizeSum}
use Rattle.lengths.proofs.items.vertices_length.Given as goal

abbrev pub invariant-loop-vertex : goal.invariant-loop-vertex
invariant-loop-vertex l = SizeSum (total vx_bytes l.vertices) l.bytes (total vx_bytes (drop l.vertex-index l.vertices)) (4 * l.vertex-index)
