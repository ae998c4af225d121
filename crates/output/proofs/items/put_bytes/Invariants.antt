-- Each byte is put behind those before it.
use Prim.Native.Nat.{◌+◌}
use lib.ListN.{drop}
use Rattle.output.proofs.PutSoFar.{PutSoFar}
use Rattle.output.proofs.items.put_bytes.Given as goal

abbrev pub invariant-loop-i : goal.invariant-loop-i
invariant-loop-i l = PutSoFar l.part (drop l.i l.part) l.initial.out l.at l.out (l.at + l.i)
