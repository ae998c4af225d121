-- Two numbers are read and the pivot is judged; then the name and what follows it.
use borrow.Author.Rules.{rules}
use mathlib.Core.Path.{◌≡◌}
use Rattle.std.specs.Prelude.{Err}
use Rattle.format.specs.Bodies.{layer_body}
use Rattle.format.proofs.ReaderSteps.{judged_on, judged_off, judged_some}
use Rattle.validate_layers.proofs.layer.layer_body.Goals as goal

pub returns-in_err-flags : goal.returns-in_err-flags
unfolding layer_body
returns-in_err-flags c =
    let told : c.from_residual.result ≡ Err c.in_err-flags.field-0.0 = search rules in
    rw told (judged_off _ c.in_err-flags.ensures.says)

pub returns-in_err-first : goal.returns-in_err-first
unfolding layer_body
returns-in_err-first c =
    let told : c.from_residual-in_err-first.result ≡ Err c.in_err-first.field-0.0 = search rules in
    rw told (judged_on _ c.in_ok-flags.ensures.says (judged_off _ c.in_err-first.ensures.says))

pub returns-in_err-next : goal.returns-in_err-next
unfolding layer_body
returns-in_err-next c =
    let told : c.from_residual-in_err-next.result ≡ Err c.in_err-next.field-0.0 = search rules in
    rw told (judged_on _ c.in_ok-flags.ensures.says (judged_on _ c.in_ok-first.ensures.says (judged_off _ c.in_err-next.ensures)))

pub returns : goal.returns
unfolding layer_body
returns c =
    judged_on _ c.in_ok-flags.ensures.says (judged_on _ c.in_ok-first.ensures.says (judged_some _ c.in_ok-next.ensures (λ pivot e. c.name_and_parent.ensures)))
