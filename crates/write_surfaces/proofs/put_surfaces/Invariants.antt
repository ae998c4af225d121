-- The names and their records walked together, each with its chunk.
use Rattle.write_surfaces.proofs.Surfaces.{SurfaceWalk}
use Rattle.write_surfaces.proofs.put_surfaces.Given as goal

abbrev pub invariant-loop-length : goal.invariant-loop-length
invariant-loop-length l = SurfaceWalk l.names l.name_bytes l.records l.initial.out l.at l.out l.next l.from l.length-iterator
