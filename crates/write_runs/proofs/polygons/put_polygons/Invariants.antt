-- A walk over the polygons that puts each.
use Rattle.write_runs.proofs.PolsEntries.{PolsPut}
use Rattle.write_runs.proofs.polygons.put_polygons.Given as goal

abbrev pub invariant-loop-entry : goal.invariant-loop-entry
invariant-loop-entry l = PolsPut l.polygons l.vertices l.initial.out l.at l.out l.next l.first l.entry-iterator
