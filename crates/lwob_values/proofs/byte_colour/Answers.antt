-- Four bytes are left, so each of the first three is there and is divided by itself.
use borrow.Author.Rules.{rules}
use mathlib.Core.Path.{◌≡◌}
use Rattle.std.specs.Prelude.{Err}
use Rattle.surface_levels.proofs.ValueBodies.{other_length}
use Rattle.lwob_values.proofs.LwobBodies.{colour_value}
use Rattle.lwob_values.proofs.byte_colour.Goals as goal

pub returns-in_err-fixed_length : goal.returns-in_err-fixed_length
returns-in_err-fixed_length c =
    let told : c.from_residual.result ≡ Err c.in_err-fixed_length.field-0.0 = search rules in
    rw told (other_length 4 _ c.in_err-fixed_length.ensures)

pub returns : goal.returns
returns c = colour_value c.in_ok-fixed_length.ensures (rw c.body-at.ensures at c.colour-red.ensures) (rw c.body-at.ensures at c.colour-green.ensures) (rw c.body-at.ensures at c.colour-blue.ensures)
