-- Each turn takes one byte more.
use mathlib.Core.Path.{◌≡◌}
use Prim.Native.Nat.{◌<◌, ◌^◌}
use lib.ListN.{take, drop}
use Rattle.format.specs.Bytes.{number}
use Rattle.wire.proofs.cursor.number_at.Given as goal

abbrev pub invariant-loop-i : goal.invariant-loop-i
invariant-loop-i g l = (l.n ≡ number (take l.i (drop l.at l.s))) × (l.n < 256 ^ l.i)
