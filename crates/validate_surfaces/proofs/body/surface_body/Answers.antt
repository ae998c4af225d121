-- The strings, and then the sub-chunks on levels two to four.
use borrow.Author.Rules.{rules}
use mathlib.Core.Path.{◌≡◌}
use Rattle.std.specs.Prelude.{Err}
use Rattle.surface_values.proofs.SurfaceBody.{no_strings, body_judged}
use Rattle.validate_surfaces.proofs.body.surface_body.Goals as goal

pub returns-in_err-first : goal.returns-in_err-first
returns-in_err-first c =
    let told : c.from_residual.result ≡ Err c.in_err-first.field-0.0 = search rules in
    rw told (no_strings c.in_err-first.ensures)

pub returns : goal.returns
returns c = body_judged c.in_ok-first.ensures (λ name. c.sub_chunks.ensures.judged 0)
