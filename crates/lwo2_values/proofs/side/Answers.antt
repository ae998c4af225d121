-- Two bytes are left, and the number is judged after it is read.
use borrow.Author.Rules.{rules}
use mathlib.Core.Path.{◌≡◌, sym, ◌∙◌}
use Rattle.std.specs.Prelude.{Err}
use Rattle.format.specs.declared.Fault.TheVariants.{SurfaceValue}
use Rattle.format.specs.Surfaces.{side_number}
use Rattle.format.proofs.ReaderSteps.{cut}
use Rattle.surface_levels.proofs.ValueBodies.{other_length, first_bad}
use Rattle.lwo2_values.proofs.Lwo2Bodies.{side_value, no_side}
use Rattle.lwo2_values.proofs.side.Goals as goal

pub returns-in_err-fixed_length : goal.returns-in_err-fixed_length
returns-in_err-fixed_length c =
    let told : c.from_residual.result ≡ Err c.in_err-fixed_length.field-0.0 = search rules in
    rw told (other_length 2 _ c.in_err-fixed_length.ensures)

pub returns-in_err-n : goal.returns-in_err-n
returns-in_err-n c =
    let told : c.from_residual-in_err-n.result ≡ Err c.in_err-n.field-0.0 = search rules in
    rw told (first_bad 2 _ c.in_ok-fixed_length.ensures (cut SurfaceValue side_number (rw c.body-c.ensures at c.in_err-n.ensures.says)))

pub returns-then-is_side : goal.returns-then-is_side
returns-then-is_side c = side_value c.in_ok-fixed_length.ensures (rw c.body-c.ensures at c.in_ok-n.ensures) (sym c.is_side.ensures ∙ c.if-is_side.true)

pub returns-else-is_side : goal.returns-else-is_side
returns-else-is_side c = rw c.body-c.ensures (no_side c.in_ok-fixed_length.ensures (rw c.body-c.ensures at c.in_ok-n.ensures) (sym c.is_side.ensures ∙ c.if-is_side.false))
