-- Three stores, of which two go by the bucket of the name.
use Rattle.name_index.proofs.HeldNames.{stored}
use Rattle.name_index.proofs.NameIndex.add_word.Goals as goal

pub returns : goal.returns
returns c = stored _ _ _ c.bucket-b.ensures.0
