-- Each value is taken in after those before it; a body that was judged fine has no fault to stop at.
use Prim.Native.Nat.{◌-◌}
use lib.ListN.{length}
use Rattle.load_values.proofs.LastValues.{LastUpTo}
use Rattle.load_values.proofs.last_values.last_values.Given as goal

abbrev pub invariant-loop-at : goal.invariant-loop-at
invariant-loop-at l = LastUpTo l.kind l.s l.initial.at l.at l.last

abbrev pub decreases-loop-at : goal.decreases-loop-at
decreases-loop-at l = length l.s - l.at
