-- One string after the other, each from where the last one ended.
use borrow.Author.Rules.{rules}
use mathlib.Core.Path.{◌≡◌}
use Rattle.std.specs.Prelude.{Err}
use Rattle.surface_values.proofs.SurfaceBody.{no_name, name_only, no_source, name_and_source}
use Rattle.surface_values.proofs.strings.strings.Goals as goal

pub returns-in_err-after : goal.returns-in_err-after
returns-in_err-after c =
    let told : c.from_residual.result ≡ Err c.in_err-after.field-0.0 = search rules in
    rw told (no_name c.args.kind c.in_err-after.ensures)

pub returns-in_err-last-in-LWO2 : goal.returns-in_err-last-in-LWO2
returns-in_err-last-in-LWO2 c =
    let told : c.from_residual-in_err-last-in-LWO2.result ≡ Err c.in_err-last-in-LWO2.field-0.0 = search rules in
    rw (told, c.in-LWO2.is) (no_source c.in_ok-after.ensures c.in_err-last-in-LWO2.ensures)

pub returns-in-LWOB : goal.returns-in-LWOB
returns-in-LWOB c = rw c.in-LWOB.is (name_only c.in_ok-after.ensures)

pub returns-in_ok-last-in-LWO2 : goal.returns-in_ok-last-in-LWO2
returns-in_ok-last-in-LWO2 c = rw c.in-LWO2.is (name_and_source c.in_ok-after.ensures c.in_ok-last-in-LWO2.ensures)
