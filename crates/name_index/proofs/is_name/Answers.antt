-- The name of a word is the slice at its place, as long as it says.
use Rattle.format.proofs.Indexed.{part}
use Rattle.name_index.proofs.is_name.Goals as goal

pub returns : goal.returns
returns c = rw part at c.same_bytes.ensures
