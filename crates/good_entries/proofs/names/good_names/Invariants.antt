-- The names before the place are those that the front of the lengths cuts out.
use Rattle.good_entries.proofs.NameWalk.{NameWalk}
use Rattle.good_entries.proofs.names.good_names.Given as goal

abbrev pub invariant-loop-i : goal.invariant-loop-i
invariant-loop-i l = NameWalk l.lengths l.bytes l.i l.at
