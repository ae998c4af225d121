-- The tests so far, joined, and the vertices that are left decide together.
use Rattle.format.proofs.Indexed.{at_index, past_end}
use Rattle.mesh.proofs.AllPass.{so_far_turn, so_far_end}
use Rattle.good_entries.proofs.polygons.all_below.Goals as goal

pub loop-vertex-preserved : goal.loop-vertex-preserved
loop-vertex-preserved c = so_far_turn c.loop-vertex.invariant (at_index _ _ c.loop-vertex-test.true)

pub returns : goal.returns
returns c = so_far_end c.loop-vertex.invariant (past_end _ _ c.loop-vertex-test.false)
