-- The length of each vertex is added to those before it.
use native.Mathlib.Omega.{arith}
use Rattle.format.specs.Canonical.{vx_bytes}
use Rattle.lengths.proofs.SizeSum.{turn, end, total_more, total_none}
use Rattle.lengths.proofs.items.vertices_length.Goals as goal

pub loop-vertex-preserved : goal.loop-vertex-preserved
loop-vertex-preserved c =
    let w = c.loop-vertex.invariant in
    turn w (total_more _ _ vx_bytes c.loop-vertex-test.true) c.vx_length-bytes.ensures.size_is (omega (arith, w.few, c.vx_length-bytes.ensures.few))

pub returns : goal.returns
returns c = end c.loop-vertex.invariant (total_none _ _ vx_bytes c.loop-vertex-test.false) (omega arith)
