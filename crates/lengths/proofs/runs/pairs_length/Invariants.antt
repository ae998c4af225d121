-- A walk over one word of a run's polygons: the length of each pair is added to those before it.
use Prim.Native.Nat.{◌*◌}
use lib.ListN.{length}
use Rattle.std.specs.Iterator.Adapters.{enumerate_source, enumerate_count}
use Rattle.format.specs.Mesh.{polygon_size}
use Rattle.mesh.specs.Lent.{column}
use Rattle.mesh.proofs.ColumnWalk.{ColumnWalk, passed}
use Rattle.mesh.specs.Polygons.{pairs_from}
use Rattle.lengths.proofs.SizeSum.{SizeSum}
use Rattle.lengths.proofs.runs.pairs_length.Given as goal

abbrev pub invariant-loop-i : goal.invariant-loop-i
invariant-loop-i l =
    let s = enumerate_source l.i-iterator in
    ColumnWalk l.run polygon_size l.index (λ ns. SizeSum (length (pairs_from 0 (column polygon_size l.index l.run))) l.bytes (length (pairs_from (enumerate_count l.i-iterator) ns)) (2 * passed l.run s)) s
