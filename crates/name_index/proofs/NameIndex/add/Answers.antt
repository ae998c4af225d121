-- Its word and its bytes are one name more.
use Rattle.format.proofs.Indexed.{part}
use Rattle.name_index.proofs.NameIndex.add.Goals as goal

pub returns : goal.returns
returns c = rw (c.word_of-word.ensures, part) at c.add_word.ensures
