-- Each turn reads one entry more and adds what it has to the sums, which stay below the place.
use borrow.Author.Rules.{rules}
use mathlib.Core.Path.{◌≡◌}
use Rattle.std.specs.Prelude.{Err}
use Rattle.validate_polygons.proofs.CountedEntries.{begin, turn, stop, end}
use Rattle.validate_polygons.proofs.entries.entries.Goals as goal

pub loop-at-init : goal.loop-at-init
loop-at-init g c = begin

pub returns-in_err-entry : goal.returns-in_err-entry
returns-in_err-entry g c =
    let told : c.from_residual.result ≡ Err c.in_err-entry.field-0.0 = search rules in
    rw told (stop c.loop-at.invariant c.loop-at-test.true c.in_err-entry.ensures)

pub loop-at-preserved : goal.loop-at-preserved
loop-at-preserved g c = turn c.loop-at.invariant c.loop-at-test.true c.in_ok-entry.ensures

pub returns : goal.returns
returns g c = end c.loop-at.invariant c.loop-at-test.false
