-- The block's names are new and at hand, and those that were looked up after it are none of them.
use Rattle.good_names.proofs.NamePass.{Block}
use Rattle.good_names.proofs.pass.Given as goal

abbrev pub invariant-loop-i : goal.invariant-loop-i
invariant-loop-i l = Block l.lengths l.bytes l.from l.base l.i l.at l.next l.place l.block
