-- The tags are the numbers of their four letters.
use borrow.Author.Rules.{rules}
use Rattle.format.specs.Bytes.{number}
use Rattle.validate_surfaces.proofs.nesting.is_block_type.Goals as goal

pub returns-in-1229799760 : goal.returns-in-1229799760
unfolding number
returns-in-1229799760 c = search rules

pub returns-in_default : goal.returns-in_default
unfolding number
returns-in_default c = search rules
