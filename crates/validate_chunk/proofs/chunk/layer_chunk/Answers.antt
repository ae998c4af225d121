-- The body decides (`ChunkCounts`).
use borrow.Author.Rules.{rules}
use mathlib.Core.Path.{◌≡◌}
use Rattle.std.specs.Prelude.{Err}
use Rattle.validate_chunk.proofs.ChunkCounts.{adds_layer, in_order, at_fault}
use Rattle.validate_chunk.proofs.chunk.layer_chunk.Goals as goal

pub returns-in_err-layer_body : goal.returns-in_err-layer_body
returns-in_err-layer_body c =
    let told : c.from_residual.result ≡ Err c.in_err-layer_body.field-0.0 = search rules in
    rw (told) (at_fault (adds_layer) c.in_err-layer_body.ensures)

pub returns : goal.returns
returns c = (in_order (adds_layer) c.in_ok-layer_body.ensures)
