-- Each turn reads one detail more, and its first fault is that of them all.
use borrow.Author.Rules.{rules}
use mathlib.Core.Path.{◌≡◌}
use Rattle.std.specs.Prelude.{Err}
use Rattle.polygon_vertices.proofs.CountedTurns.{turned, halted, ended}
use Rattle.polygon_details.proofs.details.detail_run.Goals as goal

pub returns-in_err-c : goal.returns-in_err-c
returns-in_err-c c =
    let told : c.from_residual.result ≡ Err c.in_err-c.field-0.0 = search rules in
    let w = c.in_err-c.ensures in
    rw told (halted c.loop.invariant c.loop-test.true w.says)

pub loop-preserved : goal.loop-preserved
loop-preserved c =
    let w = c.in_ok-c.ensures in
    turned c.loop.invariant c.loop-test.true w.says w.moves

pub returns : goal.returns
returns c = ended c.loop.invariant c.loop-test.false
