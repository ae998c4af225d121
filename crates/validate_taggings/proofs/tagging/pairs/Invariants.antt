-- Each turn reads one pair more, up to the end or the first fault.
use Prim.Native.Nat.{◌-◌}
use lib.ListN.{length, drop}
use Rattle.format.specs.Items.{many}
use Rattle.format.specs.Promises.{keep, nothing}
use Rattle.format.specs.Bodies.{pair}
use Rattle.format.proofs.Entries.{ManyLoop}
use Rattle.validate_taggings.proofs.tagging.pairs.Given as goal

abbrev pub invariant-loop-at : goal.invariant-loop-at
invariant-loop-at l = ManyLoop (keep nothing (many (pair l.polygons l.names) l.initial.at (drop l.initial.at l.s))) (pair l.polygons l.names) l.s l.at (λ ps. tt)

abbrev pub decreases-loop-at : goal.decreases-loop-at
decreases-loop-at l = length l.s - l.at
