-- None of the names before number k is the one that is looked for.
use Rattle.name_index.proofs.Links.{OneByOne}
use Rattle.name_index.proofs.among.Given as goal

abbrev pub invariant-loop-word : goal.invariant-loop-word
invariant-loop-word l = OneByOne l.name l.bytes l.base l.places l.word-index
