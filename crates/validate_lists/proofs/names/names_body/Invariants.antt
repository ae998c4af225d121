-- The names before the place are a chain of strings, and what is counted is theirs.
use Prim.Native.Nat.{◌-◌}
use lib.ListN.{length}
use Rattle.validate_lists.proofs.CountedNames.{NamesCounted}
use Rattle.validate_lists.proofs.names.names_body.Given as goal

abbrev pub invariant-loop-at : goal.invariant-loop-at
invariant-loop-at l = NamesCounted l.s l.at l.count l.bytes

abbrev pub decreases-loop-at : goal.decreases-loop-at
decreases-loop-at l = length l.s - l.at
