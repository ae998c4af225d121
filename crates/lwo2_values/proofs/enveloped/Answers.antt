-- The VX is read, and what follows it is the end or bytes left over.
use borrow.Author.Rules.{rules}
use mathlib.Core.Path.{◌≡◌}
use Rattle.std.specs.Prelude.{Err}
use Rattle.lwo2_values.proofs.Lwo2Bodies.{envelope_cut, bytes_left, envelope_last}
use Rattle.lwo2_values.proofs.enveloped.Goals as goal

pub returns-in_err-next : goal.returns-in_err-next
returns-in_err-next c =
    let told : c.from_residual.result ≡ Err c.in_err-next.field-0.0 = search rules in
    rw told (envelope_cut c.args.value c.in_err-next.ensures.says)

pub returns-then-next-sub : goal.returns-then-next-sub
returns-then-next-sub c = bytes_left c.args.value c.in_ok-next.ensures.says c.if-next-sub.true

pub returns : goal.returns
returns c = envelope_last c.args.value c.in_ok-next.ensures.says c.if-next-sub.false c.requires
