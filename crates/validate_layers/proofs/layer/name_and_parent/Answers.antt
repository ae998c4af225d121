-- The string is read, and what follows it is judged up to the end.
use borrow.Author.Rules.{rules}
use mathlib.Core.Path.{◌≡◌}
use Rattle.std.specs.Prelude.{Err}
use Rattle.format.proofs.ReaderSteps.{judged_on, judged_off}
use Rattle.validate_layers.proofs.layer.name_and_parent.Goals as goal

pub returns-in_err-next : goal.returns-in_err-next
returns-in_err-next c =
    let told : c.from_residual.result ≡ Err c.in_err-next.field-0.0 = search rules in
    rw told (judged_off _ c.in_err-next.ensures.reads.says)

pub returns : goal.returns
returns c = judged_on _ c.in_ok-next.ensures.reads.says c.parent.ensures
