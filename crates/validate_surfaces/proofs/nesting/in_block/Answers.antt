-- The first sub-chunk is the header, and a later one an attribute.
use Rattle.validate_surfaces.proofs.SubChunks.{held_first, held_later}
use mathlib.Core.Path.{sym, ◌∙◌}
use Rattle.validate_surfaces.proofs.nesting.in_block.Goals as goal

pub returns-then-is_first : goal.returns-then-is_first
returns-then-is_first c = held_first _ _ (sym c.is_first.ensures ∙ c.if-is_first.true) c.block_header.ensures

pub returns-else-is_first : goal.returns-else-is_first
returns-else-is_first c = held_later _ _ (sym c.is_first.ensures ∙ c.if-is_first.false) c.attribute.ensures
