-- The type is read and judged, and the entries follow it.
use borrow.Author.Rules.{rules}
use mathlib.Core.Path.{◌≡◌, sym, ◌∙◌}
use Rattle.std.specs.Prelude.{Err}
use Rattle.format.specs.Bodies.{polygons_body}
use Rattle.format.proofs.ReaderSteps.{off, cut, good, bad, faulty, judged_on}
use Rattle.validate_polygons.proofs.polygons.polygons_body.Goals as goal

pub returns-in_err-t : goal.returns-in_err-t
unfolding polygons_body
returns-in_err-t c =
    let told : c.from_residual.result ≡ Err c.in_err-t.field-0.0 = search rules in
    rw told (faulty (off _ (cut _ _ c.in_err-t.ensures.says)))

pub returns-then-not-polygon_type : goal.returns-then-not-polygon_type
unfolding polygons_body
returns-then-not-polygon_type c = faulty (off _ (bad _ _ c.in_ok-t.ensures.says (sym c.polygon_type.ensures ∙ c.if-not-polygon_type.true)))

pub returns : goal.returns
unfolding polygons_body
returns c =
    judged_on _ (good _ _ c.in_ok-t.ensures.says (sym c.polygon_type.ensures ∙ c.if-not-polygon_type.false))
    (rw c.polygon_kind.ensures at c.entries.ensures)
