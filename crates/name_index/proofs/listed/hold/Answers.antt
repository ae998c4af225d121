-- The names that were passed are in the index.
use Rattle.name_index.proofs.ListedNames.{name_room, one_held, all_held}
use Rattle.name_index.proofs.listed.hold.Goals as goal

pub add-requires : goal.add-requires
add-requires c = name_room c.loop-n.invariant c.loop-n-test.true

pub loop-n-preserved : goal.loop-n-preserved
loop-n-preserved c = one_held c.loop-n.invariant c.loop-n-test.true c.add.ensures

pub returns : goal.returns
returns c = all_held c.loop-n.invariant c.loop-n-test.false
