-- What is known of an I2 is known of its sign and absolute value.
use borrow.Author.Rules.{rules}
use mathlib.Core.Path.{◌≡◌, sym, ap, ◌∙◌}
use mir.Syntax.{w16}
use mir.Val.{to_z, of_z}
use Rattle.std.specs.Prelude.{Err}
use Rattle.wire.specs.Promises.{signed_surface_of}
use Rattle.format.proofs.ReaderSteps.{part, fails}
use Rattle.wire.proofs.cursor.Cursor.surface_number.Goals as goal

pub returns-in_err-z : goal.returns-in_err-z
returns-in_err-z c =
    let told : c.from_residual.result ≡ Err c.in_err-z.field-0.0 = search rules in
    rw told (record { says = fails c.in_err-z.ensures.says; moves = tt })

pub returns : goal.returns
returns c =
    let w = c.in_ok-z.ensures in
    let same : to_z w16 (of_z w16 c.in_ok-z.z) ≡ c.in_ok-z.z = search rules in
    record { says = part w.says (λ x e. ap signed_surface_of (e ∙ sym same) ∙ sym c.signed_surface.ensures); moves = w.moves }
