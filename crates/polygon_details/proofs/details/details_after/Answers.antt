-- Without a negative sign there are no details, and nothing is read.
use mathlib.Core.Path.{refl}
use native.Mathlib.Omega.{arith}
use Rattle.format.proofs.ReaderSteps.{given}
use Rattle.polygon_details.proofs.details.details_after.Goals as goal

pub returns-else-negative : goal.returns-else-negative
returns-else-negative c = rw c.if-negative.false (record { says = given refl; moves = omega arith })
