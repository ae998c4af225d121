-- A walk over one word of the polygons: those that are left decide, as long as each so far was 0.
use lib.Dec.{eqb}
use Rattle.format.specs.Mesh.{polygon_size}
use Rattle.mesh.specs.Lent.{column}
use Rattle.mesh.proofs.AllPass.{AllPass}
use Rattle.mesh.proofs.ColumnWalk.{ColumnWalk}
use Rattle.write_runs.proofs.pairs.no_pairs.Given as goal

abbrev pub invariant-loop-entry : goal.invariant-loop-entry
invariant-loop-entry l = ColumnWalk l.run polygon_size l.index (AllPass (λ n. eqb n 0) (column polygon_size l.index l.run)) l.entry-iterator
