-- A name is among those that are left, or is one that was passed.
use Rattle.good_entries.proofs.NameWalk.{Searching}
use Rattle.good_entries.proofs.names.among.Given as goal

abbrev pub invariant-loop-length : goal.invariant-loop-length
invariant-loop-length l = Searching l.name l.lengths l.bytes l.length-index l.at
