-- The header is judged, and then the body up to its end.
use borrow.Author.Rules.{rules}
use mathlib.Core.Path.{◌≡◌}
use Rattle.std.specs.Prelude.{Err}
use Rattle.validate_surfaces.proofs.SubChunks.{no_header, sub_stops, sub_holds}
use Rattle.validate_surfaces.proofs.nesting.sub_chunk.Goals as goal

pub returns-in_err-tag : goal.returns-in_err-tag
returns-in_err-tag c =
    let told : c.from_residual.result ≡ Err c.in_err-tag.field-0.0 = search rules in
    rw told (no_header _ c.in_err-tag.ensures)

pub returns-in_err-below : goal.returns-in_err-below
returns-in_err-below c =
    let told : c.from_residual-in_err-below.result ≡ Err c.in_err-below.field-0.0 = search rules in
    rw told (sub_stops _ c.in_ok-tag.ensures c.in_err-below.ensures)

pub returns : goal.returns
returns c = sub_holds _ c.in_ok-tag.ensures c.in_ok-below.ensures
