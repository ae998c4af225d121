-- Each turn puts one missing record more, after those before it.
use mathlib.Core.Path.{◌≡◌}
use native.Mathlib.Omega.{arith}
use Rattle.load_records.proofs.MissingRecords.{missing_begin, missing_turn}
use Rattle.load_records.proofs.table.put_missing.Goals as goal

pub loop-i-init : goal.loop-i-init
loop-i-init c = missing_begin c.args.table.now

pub loop-i-preserved : goal.loop-i-preserved
loop-i-preserved c = missing_turn c.requires c.loop-i-test.true c.loop-i.invariant c.missing.ensures c.store.ensures

pub returns : goal.returns
returns c =
    let all : c.loop-i.i ≡ c.args.n = omega (arith, c.loop-i.auto.i-end, c.loop-i-test.false) in
    rw all at c.loop-i.invariant
