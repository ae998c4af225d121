-- A float that is read is finite, and the bits of a finite float come back.
use borrow.Author.Rules.{rules}
use mathlib.Core.Path.{◌≡◌}
use Rattle.std.specs.Prelude.{Err}
use Rattle.surface_levels.proofs.FiniteFloats.{read_not_nan, float_got}
use Rattle.surface_levels.proofs.level.float_at.Goals as goal

pub float_from_bits-result : goal.float_from_bits-result
float_from_bits-result c = read_not_nan c.in_ok-bits.ensures

pub returns-in_err-bits : goal.returns-in_err-bits
returns-in_err-bits c =
    let told : c.from_residual.result ≡ Err c.in_err-bits.field-0.0 = search rules in
    rw told record { reads = c.in_err-bits.ensures; has_bits = tt }

pub returns : goal.returns
returns c = float_got (search rules) c.in_ok-bits.ensures
