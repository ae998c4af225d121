-- The names before the place are those that the front of the lengths cuts out.
use native.Mathlib.Omega.{arith}
use Rattle.good_entries.proofs.NameWalk.{begin, earlier_fit, room, turn, fails, end}
use Rattle.good_entries.proofs.names.good_names.Goals as goal

pub loop-i-init : goal.loop-i-init
loop-i-init c = begin c.requires

pub overflow_add-end : goal.overflow_add-end
overflow_add-end c = omega (arith, room c.loop-i.invariant c.loop-i-test.true)

pub slice_bounds-good_name-end : goal.slice_bounds-good_name-end
slice_bounds-good_name-end c = room c.loop-i.invariant c.loop-i-test.true

pub good_name-requires : goal.good_name-requires
good_name-requires c = earlier_fit c.loop-i.invariant

pub returns-then-not-good_name : goal.returns-then-not-good_name
returns-then-not-good_name c =
    fails c.loop-i.invariant c.loop-i-test.true c.good_name.ensures c.if-not-good_name.true

pub loop-i-preserved : goal.loop-i-preserved
loop-i-preserved c =
    turn c.loop-i.invariant c.loop-i-test.true c.good_name.ensures c.if-not-good_name.false

pub returns : goal.returns
returns c = end c.loop-i.invariant c.loop-i-test.false
