-- The vertices are read, and the surface number after them.
use borrow.Author.Rules.{rules}
use mathlib.Core.Path.{◌≡◌}
use Rattle.std.specs.Prelude.{Err}
use Rattle.format.proofs.ReaderSteps.{on_some, off, fails}
use Rattle.polygon_vertices.proofs.lwob_entry.lwob_entry_at.Goals as goal

pub returns-in_err-vertices : goal.returns-in_err-vertices
returns-in_err-vertices c =
    let told : c.from_residual.result ≡ Err c.in_err-vertices.field-0.0 = search rules in
    rw told (off _ c.in_err-vertices.ensures.says)

pub returns-in_err-sign : goal.returns-in_err-sign
returns-in_err-sign c =
    let told : c.from_residual-in_err-sign.result ≡ Err c.in_err-sign.field-0.0 = search rules in
    let w = c.in_err-sign.ensures in
    rw told (on_some _ c.in_ok-vertices.ensures.says (λ vs q. fails w.says))
