-- The count is read, and then so many details.
use borrow.Author.Rules.{rules}
use mathlib.Core.Path.{◌≡◌}
use native.Mathlib.Omega.{arith}
use Rattle.std.specs.Prelude.{Err}
use Rattle.format.specs.Promises.{each}
use Rattle.format.specs.Bodies.{detail, details}
use Rattle.format.proofs.ReaderSteps.{off, on, nearer}
use Rattle.polygon_details.proofs.DetailsBySign.{asked}
use Rattle.polygon_details.proofs.details.details.Goals as goal

pub returns-in_err-n : goal.returns-in_err-n
unfolding details
returns-in_err-n c =
    let told : c.from_residual.result ≡ Err c.in_err-n.field-0.0 = search rules in
    rw told (record { says = off _ c.in_err-n.ensures.says; moves = tt })

pub returns : goal.returns
unfolding details
returns c =
    let v = c.in_ok-n.ensures in
    let w = asked (detail _ _) _ 2 c.detail_run.result c.detail_run.ensures in
    record { says = on _ v.says w.says; moves = nearer (each 2) v w (λ y. omega arith) }
