-- Each turn puts one name more, and no string is open, since the body was judged.
use Prim.Native.Nat.{◌-◌}
use lib.ListN.{length}
use Rattle.load_lists.proofs.PutNames.{NamesStored}
use Rattle.load_lists.proofs.names.put_names.Given as goal

abbrev pub invariant-loop-at : goal.invariant-loop-at
invariant-loop-at l = NamesStored l.s l.initial.lengths l.k l.initial.bytes l.b l.at l.i l.m l.lengths l.bytes

abbrev pub decreases-loop-at : goal.decreases-loop-at
decreases-loop-at l = length l.s - l.at
