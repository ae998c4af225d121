-- The length of each string is added to those before it.
use Prim.Native.Nat.{◌+◌, ◌*◌, ◌^◌}
use mathlib.Core.List.{map}
use lib.ListN.{drop}
use Rattle.format.specs.Bytes.{sum}
use Rattle.format.specs.Items.{string_size}
use Rattle.lengths.proofs.SizeSum.{SizeSum}
use Rattle.lengths.proofs.items.strings_length.Given as goal

abbrev pub invariant-loop-length : goal.invariant-loop-length
invariant-loop-length l = SizeSum (sum (map string_size l.lengths)) l.bytes (sum (map string_size (drop l.length-index l.lengths))) (l.length-index * (2 ^ 32 + 2))
