-- The count takes two bytes, and the vertices follow it.
use native.Mathlib.Omega.{arith}
use lib.ListN.{length}
use Rattle.format.proofs.CanonicalLengths.{length_bytes}
use Rattle.output.proofs.PutSoFar.{then_wrote}
use Rattle.write_runs.proofs.PolsEntries.{polygon_parts}
use Rattle.write_runs.proofs.polygons.put_polygon.Goals as goal

pub put_number-next-requires : goal.put_number-next-requires
put_number-next-requires c = (omega arith, omega (arith, polygon_parts c.args.vertices.now, c.requires.1))

pub returns : goal.returns
returns c =
    let n = length c.args.vertices.now in
    then_wrote c.put_number-next.ensures c.put_vertices.ensures (omega (arith, length_bytes 2 n, polygon_parts c.args.vertices.now, c.requires.1))
