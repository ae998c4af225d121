-- A walk over the runs that puts the chunks of each.
use Prim.Native.Nat.{◌+◌, ◌≤◌}
use native.Mathlib.Omega.{arith}
use lib.ListN.{length}
use Rattle.mesh.proofs.RunWalk.{room}
use Rattle.write_runs.proofs.Runs.{run_room, turn, end}
use Rattle.write_runs.proofs.put_runs.Goals.{After-vertex_count}
use Rattle.write_runs.proofs.put_runs.Goals as goal

-- the vertices of the run are there
there : (n : After-vertex_count)
    → n.loop-entry.first + n.vertex_count.result ≤ length n.args.vertices.now
there n =
    let e = n in
    room e.loop-entry.invariant.walk e.loop-entry-test.true e.run_end-end.ensures n.vertex_count.ensures

pub overflow_add-last : goal.overflow_add-last
overflow_add-last c = omega (arith, there (goal.at.overflow_add-last c).After-vertex_count)

pub slice_bounds-put_run-end-in-loop-entry : goal.slice_bounds-put_run-end-in-loop-entry
slice_bounds-put_run-end-in-loop-entry c = there (goal.at.slice_bounds-put_run-end-in-loop-entry c).After-vertex_count

pub put_run-next-requires : goal.put_run-next-requires
put_run-next-requires c =
    run_room c.loop-entry.invariant c.loop-entry-test.true c.run_end-end.ensures c.vertex_count.ensures

pub loop-entry-preserved : goal.loop-entry-preserved
loop-entry-preserved c =
    turn c.loop-entry.invariant c.loop-entry-test.true c.run_end-end.ensures c.vertex_count.ensures c.put_run-next.ensures

pub returns : goal.returns
returns c = end c.loop-entry.invariant c.loop-entry-test.false
