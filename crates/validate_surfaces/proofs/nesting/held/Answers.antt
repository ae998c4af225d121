-- Each container has its own function, whose contract is that case of the specification.
use Rattle.validate_surfaces.proofs.SubChunks.{held_attribute}
use Rattle.validate_surfaces.proofs.nesting.held.Goals as goal

pub returns-in-Attributes : goal.returns-in-Attributes
returns-in-Attributes c = rw c.in-Attributes.is (held_attribute _ c.attribute.ensures)
