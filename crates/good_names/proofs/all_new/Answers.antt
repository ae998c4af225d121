-- The names that no block has had yet decide.
use Rattle.good_names.proofs.NamePass.{next_pass, last_pass, not_new}
use Rattle.good_names.proofs.all_new.Goals as goal

pub returns-in_default : goal.returns-in_default
returns-in_default c = not_new c.each_block.invariant c.in_default.ensures

pub each_block-preserved : goal.each_block-preserved
each_block-preserved c = next_pass c.each_block.invariant c.in-Some.ensures

pub returns : goal.returns
returns c = last_pass c.each_block.invariant c.each_block-test.false
