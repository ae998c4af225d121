-- The names from p on are left to be compared, and none before p is equal.
use Prim.Native.Nat.{◌-◌}
use lib.ListN.{length}
use Rattle.validate_lists.proofs.EarlierNames.{LeftToCompare}
use Rattle.validate_lists.proofs.names.earlier.Given as goal

abbrev pub invariant-loop-p : goal.invariant-loop-p
invariant-loop-p l = LeftToCompare l.s l.at l.n l.p

abbrev pub decreases-loop-p : goal.decreases-loop-p
decreases-loop-p l = length l.s - l.p
