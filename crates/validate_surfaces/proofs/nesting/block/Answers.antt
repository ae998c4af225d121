-- An empty body is at fault, and any other is the level below.
use Rattle.validate_surfaces.proofs.SubChunks.{block_empty, block_holds}
use mathlib.Core.Path.{sym, ◌∙◌}
use Rattle.validate_surfaces.proofs.nesting.block.Goals as goal

pub returns-then-left-eq0 : goal.returns-then-left-eq0
returns-then-left-eq0 c = block_empty (sym (rw c.body-from.ensures at c.left.ensures) ∙ c.if-left-eq0.true)

pub returns : goal.returns
returns c = rw c.body-from.ensures (block_holds (λ e. c.if-left-eq0.false ((rw c.body-from.ensures at c.left.ensures) ∙ e)))
