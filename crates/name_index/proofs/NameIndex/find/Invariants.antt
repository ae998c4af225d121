-- The names of the bucket, from the last that was added on: each that is equal to the one looked for is this one or lies further on.
use Rattle.name_index.specs.NameIndex.{words_in}
use Rattle.name_index.proofs.Links.{Seeking}
use Rattle.name_index.proofs.NameIndex.find.Given as goal

abbrev pub invariant-loop-k : goal.invariant-loop-k
invariant-loop-k l = Seeking l.name l.self.bytes.now l.self.base (words_in l.self) l.self.links l.k

abbrev pub decreases-loop-k : goal.decreases-loop-k
decreases-loop-k l = l.k
