-- Without polygons before it the chunk is out of order; else its body decides (`ChunkCounts`).
use borrow.Author.Rules.{rules}
use mathlib.Core.Path.{◌≡◌}
use Rattle.std.specs.Prelude.{Err}
use Rattle.validate_chunk.proofs.ChunkCounts.{none_missing, adds_tagging, in_order, at_fault, too_early}
use Rattle.validate_chunk.proofs.chunk.tagging_chunk.Goals as goal

pub returns-in_err-polygons : goal.returns-in_err-polygons
returns-in_err-polygons c =
    let told : c.from_residual.result ≡ Err c.in_err-polygons.field-0.0 = search rules in
    rw (told, c.in_err-polygons.ensures.0, c.in_err-polygons.ensures.1) (too_early _)

pub returns-in_err-tagging_body : goal.returns-in_err-tagging_body
returns-in_err-tagging_body c =
    let told : c.from_residual-in_err-tagging_body.result ≡ Err c.in_err-tagging_body.field-0.0 = search rules in
    rw (told, c.in_ok-polygons.ensures, ← none_missing c.args.lengths.names, ← c.unwrap_or.ensures) (at_fault (adds_tagging _ _) c.in_err-tagging_body.ensures)

pub returns : goal.returns
returns c = rw (c.in_ok-polygons.ensures, ← none_missing c.args.lengths.names, ← c.unwrap_or.ensures) (in_order (adds_tagging _ _) c.in_ok-tagging_body.ensures)
