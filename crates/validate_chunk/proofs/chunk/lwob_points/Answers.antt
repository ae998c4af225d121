-- Where a point list came before, the chunk is out of order; else its body decides (`ChunkCounts`).
use borrow.Author.Rules.{rules}
use mathlib.Core.Path.{◌≡◌}
use Rattle.std.specs.Prelude.{Err}
use Rattle.validate_chunk.proofs.ChunkCounts.{adds_points, in_order, at_fault, too_early}
use Rattle.validate_chunk.proofs.chunk.lwob_points.Goals as goal

pub returns-in_err-once : goal.returns-in_err-once
returns-in_err-once c =
    let told : c.from_residual.result ≡ Err c.in_err-once.field-0.0 = search rules in
    rw (told, c.in_err-once.ensures.0, c.in_err-once.ensures.1) (too_early _)

pub returns-in_err-points_body : goal.returns-in_err-points_body
returns-in_err-points_body c =
    let told : c.from_residual-in_err-points_body.result ≡ Err c.in_err-points_body.field-0.0 = search rules in
    rw (told, c.in_ok-once.ensures) (at_fault (adds_points _) c.in_err-points_body.ensures)

pub returns : goal.returns
returns c = rw (c.in_ok-once.ensures) (in_order (adds_points _) c.in_ok-points_body.ensures)
