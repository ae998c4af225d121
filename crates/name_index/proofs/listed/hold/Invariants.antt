-- The names that were passed are in the index.
use Rattle.name_index.proofs.ListedNames.{Holding}
use Rattle.name_index.proofs.listed.hold.Given as goal

abbrev pub invariant-loop-n : goal.invariant-loop-n
invariant-loop-n l = Holding l.initial.index.multiplier l.lengths l.initial.index.bytes.now l.n-index l.at l.index
