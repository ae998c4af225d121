-- The first two bytes of a float have its exponent.
use Rattle.validate_lists.proofs.Floats.{exponent}
use Rattle.validate_lists.proofs.points.is_finite_at.Goals as goal

pub returns : goal.returns
returns c = exponent _ _ c.requires c.type_inv.s
