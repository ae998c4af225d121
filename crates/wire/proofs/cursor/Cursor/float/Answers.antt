-- A float is a U4 whose value is judged after it is known not to be cut.
use borrow.Author.Rules.{rules}
use mathlib.Core.Path.{◌≡◌, sym, ◌∙◌}
use Rattle.std.specs.Prelude.{Err}
use Rattle.format.proofs.Places.{float_cut, float_is, float_bad}
use Rattle.wire.proofs.cursor.Cursor.float.Goals as goal

pub returns-in_err-bits : goal.returns-in_err-bits
returns-in_err-bits c =
    let told : c.from_residual.result ≡ Err c.in_err-bits.field-0.0 = search rules in
    rw told (float_cut c.in_err-bits.ensures)

pub returns-then-is_finite : goal.returns-then-is_finite
returns-then-is_finite c = float_is c.in_ok-bits.ensures (sym c.is_finite.ensures ∙ c.if-is_finite.true)

pub returns-else-is_finite : goal.returns-else-is_finite
returns-else-is_finite c = float_bad c.in_ok-bits.ensures (sym c.is_finite.ensures ∙ c.if-is_finite.false)
