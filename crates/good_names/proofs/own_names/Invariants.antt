-- The names that are left decide, as long as each so far was good by itself.
use Rattle.good_names.proofs.NameWalk.{OwnWalk}
use Rattle.good_names.proofs.own_names.Given as goal

abbrev pub invariant-loop-n : goal.invariant-loop-n
invariant-loop-n l = OwnWalk l.lengths l.bytes l.n-index l.at
