-- The body decides (`ChunkCounts`).
use borrow.Author.Rules.{rules}
use mathlib.Core.Path.{◌≡◌}
use Rattle.std.specs.Prelude.{Err}
use Rattle.validate_chunk.proofs.ChunkCounts.{adds_surface, in_order, at_fault}
use Rattle.validate_chunk.proofs.chunk.surface_chunk.Goals as goal

pub returns-in_err-surface_body : goal.returns-in_err-surface_body
returns-in_err-surface_body c =
    let told : c.from_residual.result ≡ Err c.in_err-surface_body.field-0.0 = search rules in
    rw (told) (at_fault (adds_surface _) c.in_err-surface_body.ensures)

pub returns : goal.returns
returns c = (in_order (adds_surface _) c.in_ok-surface_body.ensures)
