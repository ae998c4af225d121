-- A walk over the runs that adds the length of each.
use native.Mathlib.Omega.{arith}
use Rattle.mesh.proofs.RunWalk.{room}
use Rattle.lengths.proofs.RunLengths.{runs_turn, runs_end}
use Rattle.lengths.proofs.runs.runs_length.Goals as goal

pub overflow_add-last : goal.overflow_add-last
overflow_add-last c =
    omega (arith, room c.loop-at.invariant c.loop-at-test.true c.run_end-end.ensures c.vertex_count.ensures)

pub slice_bounds-run_length-end-in-loop-at : goal.slice_bounds-run_length-end-in-loop-at
slice_bounds-run_length-end-in-loop-at c =
    room c.loop-at.invariant c.loop-at-test.true c.run_end-end.ensures c.vertex_count.ensures

pub loop-at-preserved : goal.loop-at-preserved
loop-at-preserved c =
    runs_turn c.loop-at.invariant c.loop-at-test.true c.run_end-end.ensures c.vertex_count.ensures c.run_length-bytes.ensures

pub returns : goal.returns
returns c = runs_end c.loop-at.invariant c.loop-at-test.false
