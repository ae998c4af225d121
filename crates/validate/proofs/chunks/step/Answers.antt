-- A chunk adds no more than it has bytes, so that the sums do not wrap (`OneChunkMore`).
use borrow.Author.Rules.{rules}
use mathlib.Core.Path.{◌≡◌}
use native.Mathlib.Omega.{arith}
use Rattle.std.specs.Prelude.{Err}
use Rattle.validate.proofs.OneChunkMore.{few, step_stop, step_go}
use Rattle.validate.proofs.chunks.step.Goals as goal

pub returns-in_err-part : goal.returns-in_err-part
returns-in_err-part c =
    let told : c.from_residual.result ≡ Err c.in_err-part.field-0.0 = search rules in
    rw told (step_stop _ _ c.args.seen c.in_err-part.ensures)

pub with-requires : goal.with-requires
with-requires c = omega (arith, few _ _ c.args.seen c.in_ok-part.ensures c.requires.0, c.requires.1)

pub returns : goal.returns
returns c = step_go _ _ c.args.seen c.in_ok-part.ensures c.requires.0 c.with.ensures
