-- One coordinate after the other, each from where the last one ended.
use borrow.Author.Rules.{rules}
use mathlib.Core.Path.{◌≡◌, refl}
use Rattle.std.specs.Prelude.{Err}
use Rattle.format.specs.Bodies.{point}
use Rattle.format.proofs.ReaderSteps.{on, off, given}
use Rattle.validate_layers.proofs.layer.pivot.Goals as goal

pub returns-in_err-y : goal.returns-in_err-y
unfolding point
returns-in_err-y c =
    let told : c.from_residual.result ≡ Err c.in_err-y.field-0.0 = search rules in
    rw told (off _ c.in_err-y.ensures.says)

pub returns-in_err-z : goal.returns-in_err-z
unfolding point
returns-in_err-z c =
    let told : c.from_residual-in_err-z.result ≡ Err c.in_err-z.field-0.0 = search rules in
    rw told (on _ c.in_ok-y.ensures.says (off _ c.in_err-z.ensures.says))

pub returns-in_err-next : goal.returns-in_err-next
unfolding point
returns-in_err-next c =
    let told : c.from_residual-in_err-next.result ≡ Err c.in_err-next.field-0.0 = search rules in
    rw told (on _ c.in_ok-y.ensures.says (on _ c.in_ok-z.ensures.says (off _ c.in_err-next.ensures.says)))

pub returns : goal.returns
unfolding point
returns c = on _ c.in_ok-y.ensures.says (on _ c.in_ok-z.ensures.says (on _ c.in_ok-next.ensures.says (given refl)))
