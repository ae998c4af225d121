-- The product of two numbers of 32 bits has at most 64, so that its halves add up.
use borrow.Author.Rules.{rules}
use Rattle.name_index.specs.Index.{mixed}
use Rattle.name_index.proofs.mix.Goals as goal

pub returns : goal.returns
unfolding mixed
returns c = search rules
