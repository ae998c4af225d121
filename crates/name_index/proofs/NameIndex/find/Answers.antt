-- The names of the bucket, from the last that was added on: each that is equal to the one looked for is this one or lies further on.
use mathlib.Core.Path.{sym, ◌∙◌}
use Rattle.name_index.proofs.Links.{found, not_found, onward}
use Rattle.name_index.proofs.NameIndex.find.Goals as goal

pub returns-then-is_name : goal.returns-then-is_name
returns-then-is_name c = found c.requires.index c.loop-k.invariant c.loop-k-test.true (sym c.if-is_name.true ∙ c.is_name.ensures)

pub loop-k-preserved : goal.loop-k-preserved
loop-k-preserved c = onward c.requires.index c.loop-k.invariant c.loop-k-test.true (sym c.if-is_name.false ∙ c.is_name.ensures)

pub returns : goal.returns
returns c = not_found c.requires.index c.loop-k.invariant c.loop-k-test.false
