-- The header is judged before the chunks, and the first fault of the two is the answer (`FileJudged`).
use borrow.Author.Rules.{rules}
use mathlib.Core.Path.{◌≡◌}
use Rattle.std.specs.Prelude.{Err}
use Rattle.validate.proofs.FileJudged.{no_file, refused, counted}
use Rattle.validate.proofs.validate.Goals as goal

pub returns-in-Err : goal.returns-in-Err
returns-in-Err c = no_file c.in-Err.ensures

pub returns-in_err-totals : goal.returns-in_err-totals
returns-in_err-totals c =
    let told : c.from_residual.result ≡ Err c.in_err-totals.field-0.0 = search rules in
    rw told (refused c.in-Ok.ensures c.in_err-totals.ensures)

pub returns : goal.returns
returns c = counted c.in-Ok.ensures c.in_ok-totals.ensures
