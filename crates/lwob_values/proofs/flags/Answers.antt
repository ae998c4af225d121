-- Two bytes are left, so the number is there.
use borrow.Author.Rules.{rules}
use mathlib.Core.Path.{◌≡◌}
use Rattle.std.specs.Prelude.{Err}
use Rattle.surface_levels.proofs.ValueBodies.{other_length, first_bad}
use Rattle.lwob_values.proofs.LwobBodies.{flag_value}
use Rattle.lwob_values.proofs.flags.Goals as goal

pub returns-in_err-fixed_length : goal.returns-in_err-fixed_length
returns-in_err-fixed_length c =
    let told : c.from_residual.result ≡ Err c.in_err-fixed_length.field-0.0 = search rules in
    rw told (other_length 2 _ c.in_err-fixed_length.ensures)

pub returns-in_err-n : goal.returns-in_err-n
returns-in_err-n c =
    let told : c.from_residual-in_err-n.result ≡ Err c.in_err-n.field-0.0 = search rules in
    rw told (first_bad 2 _ c.in_ok-fixed_length.ensures (rw c.body.ensures at c.in_err-n.ensures.says))

pub returns : goal.returns
returns c = flag_value c.in_ok-fixed_length.ensures (rw c.body.ensures at c.in_ok-n.ensures)
