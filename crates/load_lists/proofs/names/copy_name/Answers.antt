-- Each turn puts one byte more, after those before it.
use Rattle.load_lists.proofs.PutBytes.{bytes_begin, bytes_turn, bytes_end}
use Rattle.load_lists.proofs.names.copy_name.Goals as goal

pub loop-i-init : goal.loop-i-init
loop-i-init c = bytes_begin c.requires

pub loop-i-preserved : goal.loop-i-preserved
loop-i-preserved c = bytes_turn c.loop-i.invariant c.loop-i-test.true

pub returns : goal.returns
returns c = bytes_end c.loop-i.invariant c.loop-i-test.false
