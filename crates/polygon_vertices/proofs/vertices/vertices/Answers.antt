-- Each turn reads one vertex more, and its first fault is that of them all.
use borrow.Author.Rules.{rules}
use borrow.Author.Tests.{lt-ltb, le-ltb}
use mathlib.Core.Path.{◌≡◌}
use Rattle.std.specs.Prelude.{Err}
use Rattle.format.proofs.ReaderSteps.{cut, good, bad}
use Rattle.polygon_vertices.proofs.CountedTurns.{turned, halted, ended}
use Rattle.polygon_vertices.proofs.vertices.vertices.Goals as goal

pub returns-in_err-v : goal.returns-in_err-v
returns-in_err-v g c =
    let told : c.from_residual.result ≡ Err c.in_err-v.field-0.0 = search rules in
    rw told (halted c.loop.invariant c.loop-test.true (cut _ _ c.in_err-v.ensures.says))

pub returns-then-points-v : goal.returns-then-points-v
returns-then-points-v g c = halted c.loop.invariant c.loop-test.true (bad _ _ c.in_ok-v.ensures.says (le-ltb _ _ c.if-points-v.true))

pub loop-preserved : goal.loop-preserved
loop-preserved g c =
    let w = c.in_ok-v.ensures in
    turned c.loop.invariant c.loop-test.true (good _ _ w.says (lt-ltb _ _ c.if-points-v.false)) w.moves

pub returns : goal.returns
returns g c = ended c.loop.invariant c.loop-test.false
