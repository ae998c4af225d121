-- A walk over the runs that adds the length of each.
use Prim.Native.Nat.{◌-◌}
use lib.ListN.{length}
use Rattle.mesh.proofs.RunWalk.{RunWalk}
use Rattle.lengths.proofs.RunLengths.{RunsLeft}
use Rattle.lengths.proofs.runs.runs_length.Given as goal

abbrev pub invariant-loop-at : goal.invariant-loop-at
invariant-loop-at l = RunWalk l.polygons l.vertices (RunsLeft l.polygons l.vertices l.bytes l.at l.first) l.at l.first

abbrev pub decreases-loop-at : goal.decreases-loop-at
decreases-loop-at l = length l.polygons - l.at
