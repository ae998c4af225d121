-- Four bytes are left, so the float is the whole body.
use borrow.Author.Rules.{rules}
use mathlib.Core.Path.{◌≡◌}
use Rattle.std.specs.Prelude.{Err}
use Rattle.surface_levels.proofs.ValueBodies.{other_length, first_bad}
use Rattle.lwob_values.proofs.LwobBodies.{long_value}
use Rattle.lwob_values.proofs.long_level.Goals as goal

pub returns-in_err-fixed_length : goal.returns-in_err-fixed_length
returns-in_err-fixed_length c =
    let told : c.from_residual.result ≡ Err c.in_err-fixed_length.field-0.0 = search rules in
    rw told (other_length 4 _ c.in_err-fixed_length.ensures)

pub returns-in_err-x : goal.returns-in_err-x
returns-in_err-x c =
    let told : c.from_residual-in_err-x.result ≡ Err c.in_err-x.field-0.0 = search rules in
    rw told (first_bad 4 _ c.in_ok-fixed_length.ensures (rw c.body.ensures at c.in_err-x.ensures.reads.says))

pub returns : goal.returns
returns c = long_value c.in_ok-fixed_length.ensures (rw c.body.ensures at c.in_ok-x.ensures)
