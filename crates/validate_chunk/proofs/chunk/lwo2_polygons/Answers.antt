-- Without points before it the chunk is out of order; else its body decides (`ChunkCounts`).
use borrow.Author.Rules.{rules}
use mathlib.Core.Path.{◌≡◌}
use Rattle.std.specs.Prelude.{Err}
use Rattle.validate_chunk.proofs.ChunkCounts.{adds_polygons, in_order, at_fault, too_early}
use Rattle.validate_chunk.proofs.chunk.lwo2_polygons.Goals as goal

pub returns-in_err-latest : goal.returns-in_err-latest
returns-in_err-latest c =
    let told : c.from_residual.result ≡ Err c.in_err-latest.field-0.0 = search rules in
    rw (told, c.in_err-latest.ensures.0, c.in_err-latest.ensures.1) (too_early _)

pub returns-in_err-polygons_body : goal.returns-in_err-polygons_body
returns-in_err-polygons_body c =
    let told : c.from_residual-in_err-polygons_body.result ≡ Err c.in_err-polygons_body.field-0.0 = search rules in
    rw (told, c.in_ok-latest.ensures) (at_fault (adds_polygons _) c.in_err-polygons_body.ensures)

pub returns : goal.returns
returns c = rw (c.in_ok-latest.ensures) (in_order (adds_polygons _) c.in_ok-polygons_body.ensures)
