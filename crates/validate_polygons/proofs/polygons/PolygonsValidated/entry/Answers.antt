-- A polygon is its vertices, whatever its kind.
use borrow.Author.Rules.{rules}
use mathlib.Core.Path.{◌≡◌}
use native.Mathlib.Omega.{arith}
use Rattle.std.specs.Prelude.{Err}
use Rattle.format.specs.Bodies.{polygon}
use Rattle.format.proofs.ReaderSteps.{on_some, off, given}
use Rattle.validate_polygons.proofs.polygons.PolygonsValidated.entry.Goals as goal

pub returns-in_err-vertices : goal.returns-in_err-vertices
unfolding polygon
returns-in_err-vertices c =
    let told : c.from_residual.result ≡ Err c.in_err-vertices.field-0.0 = search rules in
    rw told (record { says = off _ c.in_err-vertices.ensures.says; moves = tt })

pub returns : goal.returns
unfolding polygon
returns c =
    let w = c.in_ok-vertices.ensures in
    record { says = on_some _ w.says (λ vs e. given (rw e)); moves = omega (arith, w.moves) }
