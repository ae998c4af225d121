-- Zeros are an index of no names.
use Rattle.name_index.proofs.HeldNames.{empty_index}
use Rattle.name_index.proofs.NameIndex.new.Goals as goal

pub returns : goal.returns
returns c = empty_index c.args.bytes c.args.base c.args.multiplier
