-- A walk over one word of a run's polygons: each pair is put behind those before it.
use Prim.Native.Nat.{ℕ, ◌*◌}
use mathlib.Core.Path.{◌≡◌}
use mathlib.Core.List.{List}
use Rattle.std.specs.declared.slice.ChunksExact.{ChunksExact}
use Rattle.std.specs.Iterator.Adapters.{enumerate_source, enumerate_count}
use Rattle.format.specs.Mesh.{polygon_size}
use Rattle.mesh.specs.Lent.{column}
use Rattle.mesh.proofs.ColumnWalk.{ColumnWalk, passed}
use Rattle.mesh.specs.Polygons.{pairs_from}
use Rattle.output.proofs.PutSoFar.{PutSoFar}
use Rattle.write_runs.proofs.pairs.put_pairs.Given as goal

-- the i-th polygon's entry comes next
pub record PairsPut (run : List ℕ) (index : ℕ) (t : List ℕ) (at : ℕ) (t' : List ℕ) (next i : ℕ) (s : ChunksExact ℕ) : Type 0 where
  pub numbered : passed run s ≡ i * polygon_size
  pub walk : ColumnWalk run polygon_size index (λ ns. PutSoFar (pairs_from 0 (column polygon_size index run)) (pairs_from i ns) t at t' next) s

abbrev pub invariant-loop-i : goal.invariant-loop-i
invariant-loop-i l = PairsPut l.run l.index l.initial.out l.at l.out l.next (enumerate_count l.i-iterator) (enumerate_source l.i-iterator)
