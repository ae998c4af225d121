-- What the value is judged to be, without the value.
use borrow.Author.Rules.{rules}
use mathlib.Core.Path.{◌≡◌}
use Rattle.std.specs.Prelude.{Err}
use Rattle.validate_surfaces.proofs.SubChunks.{value_judged, value_stops}
use Rattle.validate_surfaces.proofs.nesting.value.Goals as goal

pub returns-in_err-value_of : goal.returns-in_err-value_of
returns-in_err-value_of c =
    let told : c.from_residual.result ≡ Err c.in_err-value_of.field-0.0 = search rules in
    rw told (value_stops c.in_err-value_of.ensures)

pub returns : goal.returns
returns c = value_judged c.in_ok-value_of.ensures
