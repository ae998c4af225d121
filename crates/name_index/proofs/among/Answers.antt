-- None of the names before number k is the one that is looked for.
use Rattle.name_index.proofs.Links.{none_there, one_there, next_one}
use Rattle.name_index.proofs.among.Goals as goal

pub returns-then-is_name : goal.returns-then-is_name
returns-then-is_name c = one_there c.loop-word.invariant c.loop-word-test.true c.is_name.ensures c.if-is_name.true

pub loop-word-preserved : goal.loop-word-preserved
loop-word-preserved c = next_one c.loop-word.invariant c.loop-word-test.true c.is_name.ensures c.if-is_name.false

pub returns : goal.returns
returns c = none_there c.loop-word.invariant c.loop-word-test.false
