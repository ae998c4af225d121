-- A walk over the runs that puts the chunks of each.
use Prim.Native.Nat.{◌-◌}
use lib.ListN.{length}
use Rattle.write_runs.proofs.Runs.{RunsPut}
use Rattle.write_runs.proofs.put_runs.Given as goal

abbrev pub invariant-loop-entry : goal.invariant-loop-entry
invariant-loop-entry l = RunsPut l.polygons l.vertices l.initial.out l.at l.out l.next l.entry l.first

abbrev pub decreases-loop-entry : goal.decreases-loop-entry
decreases-loop-entry l = length l.polygons - l.entry
