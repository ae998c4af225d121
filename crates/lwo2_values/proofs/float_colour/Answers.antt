-- One float after the other, each from where the last one ended, and the rest is the envelope.
use borrow.Author.Rules.{rules}
use mathlib.Core.Path.{◌≡◌}
use Rattle.std.specs.Prelude.{Err}
use Rattle.surface_levels.proofs.ValueBodies.{float_bad, float_then}
use Rattle.lwo2_values.proofs.float_colour.Goals as goal

pub returns-in_err-red : goal.returns-in_err-red
returns-in_err-red c =
    let told : c.from_residual.result ≡ Err c.in_err-red.field-0.0 = search rules in
    rw told (float_bad _ (rw c.body.ensures at c.in_err-red.ensures))

pub returns-in_err-green : goal.returns-in_err-green
returns-in_err-green c =
    let told : c.from_residual-in_err-green.result ≡ Err c.in_err-green.field-0.0 = search rules in
    rw told (float_then _ (rw c.body.ensures at c.in_ok-red.ensures) (float_bad _ c.in_err-green.ensures))

pub returns-in_err-blue : goal.returns-in_err-blue
returns-in_err-blue c =
    let told : c.from_residual-in_err-blue.result ≡ Err c.in_err-blue.field-0.0 = search rules in
    rw told (float_then _ (rw c.body.ensures at c.in_ok-red.ensures) (float_then _ c.in_ok-green.ensures (float_bad _ c.in_err-blue.ensures)))

pub returns : goal.returns
returns c = float_then _ (rw c.body.ensures at c.in_ok-red.ensures) (float_then _ c.in_ok-green.ensures (float_then _ c.in_ok-blue.ensures c.enveloped.ensures))
