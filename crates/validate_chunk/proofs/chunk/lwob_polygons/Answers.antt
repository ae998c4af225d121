-- Without points and names before it the chunk is out of order; else the body of its tag decides (`ChunkCounts`).
use borrow.Author.Rules.{rules}
use mathlib.Core.Path.{◌≡◌}
use Rattle.std.specs.Prelude.{Err}
use borrow.Author.Tests.{eq-eqb, ne_eqb}
use Rattle.format.specs.Bytes.{number}
use Rattle.validate_chunk.proofs.ChunkCounts.{adds_faces, adds_patches, in_order, at_fault, too_early}
use Rattle.validate_chunk.proofs.chunk.lwob_polygons.Goals as goal

pub returns-in_err-points : goal.returns-in_err-points
returns-in_err-points c =
    let told : c.from_residual.result ≡ Err c.in_err-points.field-0.0 = search rules in
    rw (told, c.in_err-points.ensures.0, c.in_err-points.ensures.1) (too_early _)

pub returns-in_err-names : goal.returns-in_err-names
returns-in_err-names c =
    let told : c.from_residual-in_err-names.result ≡ Err c.in_err-names.field-0.0 = search rules in
    rw (told, c.in_ok-points.ensures, c.in_err-names.ensures.0, c.in_err-names.ensures.1) (too_early _)

pub returns-in_err-faces_body : goal.returns-in_err-faces_body
unfolding number
returns-in_err-faces_body c =
    let told : c.from_residual-in_err-faces_body.result ≡ Err c.in_err-faces_body.field-0.0 = search rules in
    rw (told, c.in_ok-points.ensures, c.in_ok-names.ensures, eq-eqb _ _ c.if-tag-eq-POLS.true) (at_fault (adds_faces _ _) c.in_err-faces_body.ensures)

pub returns-in_err-patches_body : goal.returns-in_err-patches_body
unfolding number
returns-in_err-patches_body c =
    let told : c.from_residual-in_err-patches_body.result ≡ Err c.in_err-patches_body.field-0.0 = search rules in
    rw (told, c.in_ok-points.ensures, c.in_ok-names.ensures, ne_eqb _ _ c.if-tag-eq-POLS.false) (at_fault (adds_patches _ _) c.in_err-patches_body.ensures)

pub returns-in_ok-faces_body : goal.returns-in_ok-faces_body
unfolding number
returns-in_ok-faces_body c = rw (c.in_ok-points.ensures, c.in_ok-names.ensures, eq-eqb _ _ c.if-tag-eq-POLS.true) (in_order (adds_faces _ _) c.in_ok-faces_body.ensures)

pub returns-in_ok-patches_body : goal.returns-in_ok-patches_body
unfolding number
returns-in_ok-patches_body c = rw (c.in_ok-points.ensures, c.in_ok-names.ensures, ne_eqb _ _ c.if-tag-eq-POLS.false) (in_order (adds_patches _ _) c.in_ok-patches_body.ensures)
