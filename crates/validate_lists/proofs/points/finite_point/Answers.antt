-- The first float that is not finite is the point's fault.
use borrow.Author.Rules.{rules}
use mathlib.Core.Path.{◌≡◌}
use Prim.Native.Nat.{◌+◌}
use native.Mathlib.Omega.{arith}
use Rattle.std.specs.Prelude.{Err}
use Rattle.format.specs.Bodies.{point}
use Rattle.format.proofs.ReaderSteps.{on_some, off, made_of}
use Rattle.validate_lists.proofs.points.finite_point.Goals as goal

pub returns-in_err-finite_at : goal.returns-in_err-finite_at
unfolding point
returns-in_err-finite_at c =
    let told : c.from_residual.result ≡ Err c.in_err-finite_at.field-0.0 = search rules in
    rw told (off _ c.in_err-finite_at.ensures)

pub returns-in_err-finite_at-2 : goal.returns-in_err-finite_at-2
unfolding point
returns-in_err-finite_at-2 c =
    let told : c.from_residual-in_err-finite_at-2.result ≡ Err c.in_err-finite_at-2.field-0.0 = search rules in
    rw told (on_some _ c.in_ok-finite_at.ensures (λ x e. off _ c.in_err-finite_at-2.ensures))

pub returns : goal.returns
unfolding point
returns c =
    let third : c.args.at + 4 + 4 ≡ c.args.at + 8 = omega arith in
    let last : c.args.at + 8 + 4 ≡ c.args.at + 12 = omega arith in
    on_some _ c.in_ok-finite_at.ensures (λ x e. on_some _ (rw third at c.in_ok-finite_at-2.ensures) (λ y f. made_of _ (rw last at c.finite_at-3.ensures)))
