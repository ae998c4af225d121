-- The names and their records are walked together, and the length of each is added to those before it.
use Prim.Native.Nat.{◌+◌, ◌-◌, ◌*◌, ◌^◌}
use lib.ListN.{length}
use Rattle.format.specs.Mesh.{record_size}
use Rattle.mesh.specs.Lent.{column}
use Rattle.mesh.proofs.NamedRecords.{NamedRecords, names_left, words_left}
use Rattle.lengths.specs.Sizes.{surfaces_size}
use Rattle.lengths.proofs.SizeSum.{SizeSum}
use Rattle.lengths.proofs.surfaces.surfaces_length.Given as goal

abbrev pub invariant-loop-length : goal.invariant-loop-length
invariant-loop-length l =
    let z = l.length-iterator in
    NamedRecords l.lengths z × SizeSum (surfaces_size l.lengths (column record_size 0 l.records)) l.bytes (surfaces_size (names_left z) (column record_size 0 (words_left z))) ((length l.lengths - length (names_left z)) * (2 ^ 32 + 101))
