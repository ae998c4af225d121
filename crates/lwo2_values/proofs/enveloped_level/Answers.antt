-- The float is the level, and the rest is the envelope.
use borrow.Author.Rules.{rules}
use mathlib.Core.Path.{◌≡◌}
use Rattle.std.specs.Prelude.{Err}
use Rattle.surface_levels.proofs.ValueBodies.{float_bad, float_then}
use Rattle.lwo2_values.proofs.enveloped_level.Goals as goal

pub returns-in_err-x : goal.returns-in_err-x
returns-in_err-x c =
    let told : c.from_residual.result ≡ Err c.in_err-x.field-0.0 = search rules in
    rw told (float_bad _ (rw c.body.ensures at c.in_err-x.ensures))

pub returns : goal.returns
returns c = float_then _ (rw c.body.ensures at c.in_ok-x.ensures) c.enveloped.ensures
