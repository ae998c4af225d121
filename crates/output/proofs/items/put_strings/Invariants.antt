-- The names are put one after another; those that are left are cut from the bytes that are left.
use Prim.Native.Nat.{◌+◌}
use mathlib.Core.Path.{◌≡◌}
use mathlib.Core.List.{map}
use lib.ListN.{length, drop}
use Rattle.format.specs.Bytes.{sum, joined}
use Rattle.format.specs.Canonical.{string_bytes}
use Rattle.format.specs.Written.{pieces}
use Rattle.output.proofs.PutSoFar.{PutSoFar}
use Rattle.output.proofs.items.put_strings.Given as goal

abbrev pub invariant-loop-length : goal.invariant-loop-length
invariant-loop-length l = (l.from + sum (drop l.length-index l.lengths) ≡ length l.bytes) × PutSoFar (joined (map string_bytes (pieces l.lengths l.bytes))) (joined (map string_bytes (pieces (drop l.length-index l.lengths) (drop l.from l.bytes)))) l.initial.out l.at l.out l.next
