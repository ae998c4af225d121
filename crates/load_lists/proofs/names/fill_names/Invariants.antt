-- The walk passes chunks without names up to the one that holds them all (`NamesWalk`).
use Prim.Native.Nat.{◌-◌}
use lib.ListN.{length}
use Rattle.load_lists.proofs.NamesWalk.{NoNamesTo}
use Rattle.load_lists.proofs.names.fill_names.Given as goal

abbrev pub invariant-loop-at : goal.invariant-loop-at
invariant-loop-at l = NoNamesTo l.kind l.file l.initial.lengths l.initial.bytes l.at l.lengths l.bytes

abbrev pub decreases-loop-at : goal.decreases-loop-at
decreases-loop-at l = length l.file - l.at
