-- The names that no block has had yet decide.
use Prim.Native.Nat.{◌-◌}
use lib.ListN.{length}
use Rattle.good_names.proofs.NamePass.{AllPasses}
use Rattle.good_names.proofs.all_new.Given as goal

abbrev pub invariant-each_block : goal.invariant-each_block
invariant-each_block l = AllPasses l.lengths l.bytes l.from l.base

abbrev pub decreases-each_block : goal.decreases-each_block
decreases-each_block l = length l.lengths - l.from
