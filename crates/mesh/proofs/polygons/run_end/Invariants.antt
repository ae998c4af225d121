-- As long as the next polygon has the kind of the first, the run goes on: the end so far and those that follow make the run's end.
use Rattle.mesh.proofs.Runs.{RunSoFar}
use Rattle.mesh.proofs.polygons.run_end.Given as goal

abbrev pub invariant-loop-entry : goal.invariant-loop-entry
invariant-loop-entry l = RunSoFar l.polygons l.at l.first l.end l.entry-iterator
